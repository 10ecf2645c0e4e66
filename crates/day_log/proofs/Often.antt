-- How often a number stands in a list.
use mathlib.Core.Path.{◌≡◌, refl, ap, ◌∙◌, sym, subst}
use mathlib.Core.List.{List, [], ◌∷◌}
use mathlib.Core.Bool.{Bool, true, false, ◌||◌, not}
use Prim.Native.Nat.{ℕ, ◌+◌, ◌≤◌}
use native.Mathlib.Decide.{dec_le}
use native.Mathlib.Omega.{arith}
use lib.Dec.{eqb}
use lib.ListN.{length, get_or}
use Rattle.signature.specs.Lists.{memb, In, in_here, in_there}
use Rattle.signature.proofs.Counting.{counted_length, getD_counted}
use Rattle.signature.proofs.Tests.{eqb_self, eqb_no, eqb_eq, eqb_ne, true≢false}
use Rattle.tree.specs.Limits.{last_number}
use Rattle.day_log.specs.Limits.{rule_numbers}
use Rattle.day_log.specs.Log.{often, counts}

-- by the first entry
pub none_often : (n : ℕ) → often n [] ≡ 0
unfolding often
none_often n = refl

pub once_more : (n : ℕ) (log : List ℕ) → often n (n ∷ log) ≡ 1 + often n log
unfolding often
once_more n log = rw (eqb_self n) (omega arith)

pub for_others : (n m : ℕ) (log : List ℕ) → (n ≡ m → ⊥) → often n (m ∷ log) ≡ often n log
unfolding often
for_others n m log h = rw (eqb_no n m h)

-- an entry is counted once at most
pub often_most : (n : ℕ) (log : List ℕ) → often n log ≤ length log
often_most n [] = omega (arith, none_often n)
often_most n (m ∷ log) = go (eqb n m) refl (often_most n log)
  where
    go : (b : Bool) → eqb n m ≡ b → often n log ≤ length log → often n (m ∷ log) ≤ length (m ∷ log)
    go true q h = rw (← eqb_eq n m q) (omega (arith, once_more n log))
    go false q h = omega (arith, for_others n m log (eqb_ne n m q))

-- whether it stands there
pub memb_in : (n : ℕ) (log : List ℕ) → memb n log ≡ true → In n log
memb_in n [] e = true≢false (sym e)
memb_in n (m ∷ log) e = go (eqb n m) refl e (memb_in n log)
  where
    go : (b : Bool) → eqb n m ≡ b → (eqb n m || memb n log) ≡ true → (memb n log ≡ true → In n log) → In n (m ∷ log)
    go true q z f = subst (λ x. In n (x ∷ log)) (eqb_eq n m q) in_here
    go false q z f = in_there (f (rw q at z))

pub in_memb : (n : ℕ) (log : List ℕ) → In n log → memb n log ≡ true
in_memb n [] x' = elim x' [ ]
in_memb n (m ∷ log) in_here = rw (eqb_self n)
in_memb n (m ∷ log) (in_there i) = go (eqb n m) (in_memb n log i)
  where
    go : (b : Bool) → memb n log ≡ true → (b || memb n log) ≡ true
    go true e = refl
    go false e = e

pub memb_often : (n : ℕ) (log : List ℕ) → memb n log ≡ not (eqb (often n log) 0)
memb_often n [] = rw (none_often n)
memb_often n (m ∷ log) = go (eqb n m) refl (memb_often n log)
  where
    go : (b : Bool) → eqb n m ≡ b → memb n log ≡ not (eqb (often n log) 0) → memb n (m ∷ log) ≡ not (eqb (often n (m ∷ log)) 0)
    go true q h = rw (q, ← eqb_eq n m q, once_more n log, eqb_no (1 + often n log) 0 (λ e. omega arith))
    go false q h = rw (q, for_others n m log (eqb_ne n m q)) h

pub not_there : (n : ℕ) (log : List ℕ) → memb n log ≡ false → often n log ≡ 0
not_there n log e = go (eqb (often n log) 0) refl (sym (memb_often n log) ∙ e)
  where
    go : (b : Bool) → eqb (often n log) 0 ≡ b → not (eqb (often n log) 0) ≡ false → often n log ≡ 0
    go true q z = eqb_eq (often n log) 0 q
    go false q z = true≢false (rw q at z)

pub there : (n : ℕ) (log : List ℕ) → memb n log ≡ true → 1 ≤ often n log
there n log e = go (dec_le 1 (often n log))
  where
    go : Dec (1 ≤ often n log) → 1 ≤ often n log
    go (yes h) = h
    go (no h) = let z : often n log ≡ 0 = omega arith in true≢false (sym e ∙ memb_often n log ∙ rw z)

pub nowhere : (n : ℕ) (log : List ℕ) → (In n log → ⊥) → often n log ≡ 0
nowhere n log h = go (memb n log) refl
  where
    go : (b : Bool) → memb n log ≡ b → often n log ≡ 0
    go true q = absurd (h (memb_in n log q))
    go false q = not_there n log q

-- the counts, by rule number
pub numbered : (log : List ℕ) → length (counts log) ≡ rule_numbers
unfolding counts
numbered log = counted_length (λ n. often n log) 0 rule_numbers

pub count : (log : List ℕ) (n : ℕ) → n ≤ last_number → get_or (counts log) n 0 ≡ often n log
unfolding counts
count log n h = getD_counted (λ m. often m log) 0 rule_numbers n (omega arith) ∙ ap (λ m. often m log) (omega arith)
