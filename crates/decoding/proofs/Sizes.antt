-- The words of a constructor's smallest value, and the least of the rows of a kind.
use mathlib.Core.Path.{◌≡◌, sym, ap, ◌∙◌}
use mathlib.Core.List.{List}
use mathlib.Core.Bool.{false}
use Prim.Native.Nat.{ℕ, suc, ◌+◌, ◌-◌, ◌*◌, ◌≤◌, ◌<◌, min}
use native.Mathlib.Omega.{arith}
use lib.ListN.{length, get_or}
use lib.Dec.{eqb}
use Rattle.signature.specs.Limits.{kind_limit, over_small}
use Rattle.signature.specs.Lists.{first, keep, count_up}
use Rattle.signature.specs.Read.{total}
use Rattle.signature.specs.Decoded.{stride, arity_of, argument_of}
use Rattle.decoding.specs.Decoding.{words_from, row, RowFit, Sizes, fewest}
use Rattle.signature.proofs.Tests.{eqb_no}
use Rattle.signature.proofs.ListFacts.{at_getD}
use Rattle.signature.proofs.Counting.{count_one, count_one_from}
use Rattle.decoding.proofs.Fewest.{fewest_most, fewest_some}

-- the words of a constructor's smallest value, argument by argument
pub record Summed (t : List ℕ) (c : ℕ) (sizes : List ℕ) (a sum j : ℕ) : Type 0 where
  pub within : j ≤ a
  pub is_arity : a ≡ arity_of t c
  pub small : sum ≤ 1 + over_small * j
  pub whole : sum + total sizes (words_from t (stride * c + 2 + j) (a - j)) ≡ suc (total sizes (row t c).args)

module _ (t : List ℕ) (c : ℕ) (sizes : List ℕ) (a : ℕ) where
  pub words_more : (sum j k₀ k : ℕ) → j < a → RowFit t c → Sizes sizes → k₀ ≡ argument_of t c j → k ≡ k₀ → Summed t c sizes a sum j → Summed t c sizes a (sum + get_or sizes k 0) (j + 1)
  words_more sum j k₀ k l f g e₀ e h =
      let q : get_or t (stride * c + 2 + j) 0 ≡ k = sym (e ∙ e₀) in
      let m : k < kind_limit = omega (arith, f.arguments j (omega (arith, h.is_arity))) in
      let n : k < length sizes = omega (arith, g.long) in
      let r : total sizes (words_from t (stride * c + 2 + j) (a - j)) ≡ get_or sizes k 0 + total sizes (words_from t (stride * c + 2 + (j + 1)) (a - (j + 1))) = rw (count_one_from (stride * c + 2) j a l, q, at_getD sizes k n) in
      record { within = omega arith; is_arity = h.is_arity; small = omega (arith, g.each k, h.small); whole = omega (arith, h.whole) }

-- the rows from c on to the end e
span_from : (a m c e : ℕ) → c ≡ a → e ≡ a + m → count_up a m ≡ count_up c (e - c)
span_from a m c e p q =
    let r : e - c ≡ m = omega arith in
    rw (r, p)

module _ (f : ℕ → ℕ) (x c e size : ℕ) where
  pub fewest_start : (a m : ℕ) → c ≡ a → e ≡ a + m → x ≡ fewest f (count_up a m) → size ≡ over_small → (x ≡ min size (fewest f (count_up c (e - c))))
  fewest_start a m p q r z =
      let y : fewest f (count_up a m) ≡ fewest f (count_up c (e - c)) = ap (fewest f) (span_from a m c e p q) in
      omega (arith, fewest_most f (count_up c (e - c)))

  pub fewest_next : (w v : ℕ) → c < e → w ≡ f c → v ≡ min w size → x ≡ min size (fewest f (count_up c (e - c))) → x ≡ min v (fewest f (count_up (c + 1) (e - (c + 1))))
  fewest_next w v l p q r =
      let z : fewest f (count_up c (e - c)) ≡ min (f c) (fewest f (count_up (c + 1) (e - (c + 1)))) = rw (count_one c e l) in
      omega arith

pub fewest_one : (g : ℕ → ℕ) (x c e size w v : ℕ) → c < e → w ≡ suc (g c) → v ≡ min w size → v ≡ 1 → x ≡ min size (fewest (λ i. suc (g i)) (count_up c (e - c))) → 1 ≡ x
fewest_one g x c e size w v l p q z r = omega (arith, fewest_next (λ i. suc (g i)) x c e size w v l p q r, fewest_some g (count_up (c + 1) (e - (c + 1))))

module _ (f : ℕ → ℕ) (v x c e : ℕ) where
  abbrev pub FirstFrom : Type 0
  FirstFrom = x ≡ first (keep (λ i. eqb (f i) v) (count_up c (e - c)))

  pub first_passed : (w : ℕ) → c < e → w ≡ f c → ¬ (w ≡ v) → FirstFrom → x ≡ first (keep (λ i. eqb (f i) v) (count_up (c + 1) (e - (c + 1))))
  first_passed w l p q z =
      let r : eqb (f c) v ≡ false = eqb_no (f c) v (λ y. q (p ∙ y)) in
      z ∙ rw (count_one c e l, r)
