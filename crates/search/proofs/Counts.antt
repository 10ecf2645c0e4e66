-- How many rows are in a set.
use mathlib.Core.Path.{◌≡◌, refl, sym}
use mathlib.Core.List.{List}
use mathlib.Core.Bool.{Bool, true, false, cond}
use Prim.Native.Nat.{ℕ, zero, suc, ◌+◌, ◌≤◌, ◌<◌}
use native.Mathlib.Omega.{arith}
use lib.Dec.{eqb}
use Rattle.signature.proofs.Tests.{true≢false, eqb_eq, eqb_ne}
use Rattle.rowset.specs.Member.{member}
use Rattle.search.specs.Look.{Within, count}

one_most : (b b' : Bool) → (b' ≡ true → b ≡ true) → cond b' 1 0 ≤ cond b 1 0
one_most true true h = omega arith
one_most true false h = omega arith
one_most false true h = true≢false (sym (h refl))
one_most false false h = omega arith

pub count_within : (n : ℕ) (s s' : List ℕ) → Within n s' s → count s' n ≤ count s n
count_within zero s s' h = omega arith
count_within (suc n) s s' h = omega (arith, one_most (member s n) (member s' n) (h n (omega arith)), count_within n s s' (λ r l. h r (omega (arith, l))))

-- one at least is out
pub count_less : (n r : ℕ) (s s' : List ℕ) → Within n s' s → r < n → member s r ≡ true → member s' r ≡ false → suc (count s' n) ≤ count s n
count_less zero r s s' h l e f = absurd (omega (arith, l))
count_less (suc n) r s s' h l e f = go (eqb n r) refl (λ m. count_less n r s s' (λ q k. h q (omega (arith, k))) m e f)
  where
    go : (b : Bool) → eqb n r ≡ b → (r < n → suc (count s' n) ≤ count s n) → suc (cond (member s' n) 1 0 + count s' n) ≤ cond (member s n) 1 0 + count s n
    go true q k =
        let z : n ≡ r = eqb_eq n r q in
        let e' : member s n ≡ true = rw z e in
        let f' : member s' n ≡ false = rw z f in
        rw (e', f') (omega (arith, count_within n s s' (λ p m. h p (omega (arith, m)))))
    go false q k = omega (arith, one_most (member s n) (member s' n) (h n (omega arith)), k (omega (arith, l, eqb_ne n r q)))

pub count_most : (s : List ℕ) (n : ℕ) → count s n ≤ n
count_most s zero = omega arith
count_most s (suc n) = omega (arith, count_most s n, one_most true (member s n) (λ e. refl))
