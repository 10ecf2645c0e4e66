-- How many words the lists of rows have: at most 64 rows, of at most 3 words for each word of the pattern.
use mathlib.Core.Path.{◌≡◌, refl, sym}
use mathlib.Core.List.{List, [], ◌∷◌}
use mathlib.Core.Bool.{Bool, true, false}
use Prim.Native.Nat.{ℕ, ◌+◌, ◌*◌, ◌≤◌}
use native.Mathlib.Nat.{suc-mul, mul_assoc}
use native.Mathlib.Omega.{arith}
use lib.ListN.{length, length-append}
use Rattle.signature.specs.Lists.{All, none_left, also}
use Rattle.signature.specs.Signature.{Signature}
use Rattle.signature.proofs.Tests.{times_less}
use Rattle.pattern.specs.Pattern.{Pattern, pattern_code}
use Rattle.pattern.specs.Side.{plus, minus}
use Rattle.pattern.specs.WellFormed.{WellFormed}
use Rattle.pattern.proofs.StandsLaw.{light_weight}
use Rattle.builder.specs.Build.{light_of}
use Rattle.rowlist.specs.Sides.{rows_of}
use Rattle.cell.specs.Cell.{Kinds, all_words}
use Rattle.cell.specs.Coded.{row_code, all_cells}
use Rattle.rowlist.specs.Product.{room_for, room_all}
use Rattle.row.specs.Row.{Row, Rows, named, free, rnil, rcons}
use Rattle.row.specs.RowFits.{place_count, places_count}
use Rattle.cell.specs.RowList.{entries, costs}
use Rattle.row.proofs.Places.{plus_places, minus_places}
use Rattle.row.proofs.RowCount.{plus_count, minus_count}

module _ (K : Kinds) where
  -- three words for a place
  mutual
    pub code_places : (r : Row) (k : ℕ) → length (row_code K r k) ≤ 3 * place_count r
    code_places (named xs c rs) k = omega (arith, codes_places rs (K.args c))
    code_places (free xs cs) k = omega arith

    pub codes_places : (rs : Rows) (ks : List ℕ) → length (all_words (all_cells K rs ks)) ≤ 3 * places_count rs
    codes_places rnil ks = omega arith
    codes_places (rcons r rs) [] = omega arith
    codes_places (rcons r rs) (k ∷ ks) = simp length-append (omega (arith, code_places r k, codes_places rs ks))

pub costs_le : {A : Type 0} (c : A → ℕ) (d : ℕ) {xs : List A} → All (λ a. c a ≤ d) xs → costs c xs ≤ length xs * d
costs_le c d none_left = omega arith
costs_le c d (also x {xs} h t) = rw (suc-mul (length xs) d) (omega (arith, costs_le c d t))

all_change : {A : Type 0} {P : A → Type 0} (Q : A → Type 0) → ((a : A) → P a → Q a) → {xs : List A} → All P xs → All Q xs
all_change Q f none_left = none_left
all_change Q f (also x h t) = also x (f x h) (all_change Q f t)

module _ (K : Kinds) (k : ℕ) where
  entries_costs : (rs : List Row) → length (entries K k rs) ≡ costs (λ r. 1 + length (row_code K r k)) rs
  entries_costs [] = refl
  entries_costs (r ∷ rs) = simp length-append (omega (arith, entries_costs rs))

  pub entries_le : (l : ℕ) (rs : List Row) → All (λ r. place_count r ≤ l) rs → length (entries K k rs) ≤ length rs * (1 + 3 * l)
  entries_le l rs h =
      let a : costs (λ r. 1 + length (row_code K r k)) rs ≤ length rs * (1 + 3 * l) = costs_le (λ r. 1 + length (row_code K r k)) (1 + 3 * l) (all_change _ (λ r (q : place_count r ≤ l). omega (arith, code_places K r k)) h) in
      omega (arith, a, entries_costs rs)

  pub entries_small : (l : ℕ) (rs : List Row) → All (λ r. place_count r ≤ l) rs → length rs ≤ 64 → length (entries K k rs) ≤ 64 + 192 * l
  entries_small l rs h n = omega (arith, entries_le l rs h, times_less (length rs) 64 (1 + 3 * l) (1 + 3 * l) n (omega arith))

  -- the room of a product
  for_small : (i j : ℕ) (r : Row) (ss : List Row) → place_count r ≤ i → All (λ s. place_count s ≤ j) ss → room_for K k r ss ≤ length ss * (1 + 3 * (i + j))
  for_small i j r [] h none_left = omega arith
  for_small i j r (s ∷ ss) h (also x l t) = rw (suc-mul (length ss) (1 + 3 * (i + j))) (omega (arith, for_small i j r ss h t, code_places K r k, code_places K s k))

  pub all_small : (i j : ℕ) (rs ss : List Row) → All (λ r. place_count r ≤ i) rs → All (λ s. place_count s ≤ j) ss → length rs * length ss ≤ 64 → room_all K k rs ss ≤ 64 + 192 * (i + j)
  all_small i j rs ss h t n =
      let d = 1 + 3 * (i + j) in
      let a : room_all K k rs ss ≤ length rs * (length ss * d) = costs_le (λ r. room_for K k r ss) (length ss * d) (all_change _ (λ r (q : place_count r ≤ i). for_small i j r ss q t) h) in
      let b : length rs * (length ss * d) ≤ 64 * d = rw (sym (mul_assoc (length rs) (length ss) d)) (times_less (length rs * length ss) 64 d d n (omega arith)) in
      omega (arith, a, b)

module _ (sig : Signature) (k : ℕ) where
  pub rows_few : (p : Pattern) (b : Bool) → light_of b p ≡ true → length (rows_of sig k b p) ≤ 64
  rows_few p true e = omega (arith, plus_count sig p k, light_weight plus p e)
  rows_few p false e = omega (arith, minus_count sig p k, light_weight minus p e)

  pub rows_places : (p : Pattern) (b : Bool) → WellFormed sig k p → All (λ r. place_count r ≤ length (pattern_code p)) (rows_of sig k b p)
  rows_places p true h = plus_places sig p h
  rows_places p false h = minus_places sig p h

  pub list_small : (K : Kinds) (p : Pattern) (b : Bool) → WellFormed sig k p → light_of b p ≡ true → length (entries K k (rows_of sig k b p)) ≤ 64 + 192 * length (pattern_code p)
  list_small K p b h e = entries_small K k (length (pattern_code p)) (rows_of sig k b p) (rows_places p b h) (rows_few p b e)
