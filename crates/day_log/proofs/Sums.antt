-- Counts added up.
use mathlib.Core.Path.{◌≡◌, refl, ap, ap₂}
use mathlib.Core.List.{List, [], ◌∷◌, map}
use mathlib.Core.Bool.{Bool, true, false}
use Prim.Native.Nat.{ℕ, zero, suc, ◌+◌, ◌≤◌, ◌<◌}
use native.Mathlib.Omega.{arith}
use lib.Dec.{eqb}
use lib.ListN.{length}
use Rattle.signature.specs.Lists.{All, none_left, also, keep, count_up}
use Rattle.signature.proofs.Tests.{eqb_eq, eqb_ne}
use Rattle.day_log.specs.Laws.{sum}
use Rattle.day_log.specs.Limits.{rule_numbers}
use Rattle.day_log.specs.Log.{often, counts}
use Rattle.day_log.proofs.Often.{none_often, once_more, for_others}

-- how often k numbers from i on stand in the log, added up
abbrev together : List ℕ → ℕ → ℕ → ℕ
together log i k = sum (map (λ n. often n log) (count_up i k))

together_none : (i k : ℕ) → together [] i k ≡ 0
together_none i zero = refl
together_none i (suc k) = omega (arith, none_often i, together_none (suc i) k)

-- an entry below these numbers, and one among them
entry_below : (m : ℕ) (log : List ℕ) (i k : ℕ) → m < i → together (m ∷ log) i k ≡ together log i k
entry_below m log i zero h = refl
entry_below m log i (suc k) h = ap₂ (λ x y. x + y) (for_others i m log (λ e. omega arith)) (entry_below m log (suc i) k (omega arith))

entry_among : (m : ℕ) (log : List ℕ) (i k : ℕ) → i ≤ m → m < i + k → together (m ∷ log) i k ≡ 1 + together log i k
entry_among m log i zero h l = absurd (omega arith)
entry_among m log i (suc k) h l = go (eqb i m) refl (entry_among m log (suc i) k)
  where
    go : (b : Bool) → eqb i m ≡ b → (suc i ≤ m → m < suc i + k → together (m ∷ log) (suc i) k ≡ 1 + together log (suc i) k) → together (m ∷ log) i (suc k) ≡ 1 + together log i (suc k)
    go true q f = let e : i ≡ m = eqb_eq i m q in omega (arith, ap (λ x. often i (x ∷ log)) e, once_more i log, entry_below m log (suc i) k (omega arith))
    go false q f = let n : i ≡ m → ⊥ = eqb_ne i m q in omega (arith, for_others i m log n, f (omega arith) (omega arith))

-- every entry is counted once
together_all : (k : ℕ) {log : List ℕ} → All (λ n. n < k) log → together log 0 k ≡ length log
together_all k none_left = together_none 0 k
together_all k (also m {xs = log} l ls) = omega (arith, entry_among m log 0 k (omega arith) (omega arith), together_all k ls)

pub counts_sum : {log : List ℕ} → All (λ n. n < rule_numbers) log → sum (counts log) ≡ length log
unfolding counts
counts_sum ls = together_all rule_numbers ls

-- what is left out adds nothing
pub sum_keep : (f : ℕ → ℕ) (p : ℕ → Bool) → ((n : ℕ) → p n ≡ false → f n ≡ 0) → (ns : List ℕ) → sum (map f (keep p ns)) ≡ sum (map f ns)
sum_keep f p h [] = refl
sum_keep f p h (n ∷ ns) = go (p n) refl (sum_keep f p h ns)
  where
    go : (b : Bool) → p n ≡ b → sum (map f (keep p ns)) ≡ sum (map f ns) → sum (map f (keep p (n ∷ ns))) ≡ sum (map f (n ∷ ns))
    go true q e = rw q (ap (λ x. f n + x) e)
    go false q e = rw q (omega (arith, h n q))
