-- The products of two lists, row by row, and the words that they need.
use mathlib.Core.Path.{subst, ◌≡◌, refl, ap, sym, ◌∙◌}
use mathlib.Core.List.{List, ◌∷◌, [], append-nil, ◌++◌, map}
use mathlib.Core.Option.{Option, none, some}
use mathlib.Core.Bool.{Bool, cond, true, false}
use Prim.Native.Nat.{ℕ, ◌≤◌, ◌+◌, ◌<◌}
use native.Mathlib.Numerals.{add-one}
use native.Mathlib.Omega.{arith}
use lib.Bits.{bit_and, bit_or}
use lib.Dec.{eqb}
use lib.ListN.{length, length-append, get_or, set}
use lib.Seq.{take-suc-set}
use Rattle.signature.specs.Lists.{somes}
use Rattle.cell.specs.Cell.{RowCells, words, named_cells, all_words, free_cell, RowsCells, no_cells, more_cells, Kinds, cell_code}
use Rattle.cell.specs.Coded.{row_code_of, row_code, Typed, cells}
use Rattle.rowlist.specs.Product.{GivenEach, with_each, room_for, each_entry, AllTyped, GivenProduct, Product, products}
use Rattle.row.specs.Row.{Row, combine, each}
use Rattle.cell.specs.RowList.{entries, costs, GivenOne, from, WrittenFirst, one_entry}
use Rattle.cell.proofs.CellFacts.{gate, then, both, boths}
use Rattle.cell.proofs.CodedFacts.{same}
use Rattle.cell.proofs.Walk.{Task, code_long, yields, Now, start, Head, head, Turned, turn, end}

-- a combined row has no more words than both
abbrev Small : Option (List ℕ) → ℕ → Type 0
Small none n = Unit {0}
Small (some w) n = length w ≤ n

small_gate : (m n : ℕ) (o : Option (List ℕ)) → Small o n → Small (gate m o) n
small_gate m n o h = go (eqb m 0)
  where
    go : (b : Bool) → Small (cond b none o) n
    go true = tt
    go false = h

small_then : (a b : Option (List ℕ)) (m n : ℕ) → Small a m → Small b n → Small (then a b) (m + n)
small_then none b m n h g = tt
small_then (some t) none m n h g = tt
small_then (some t) (some u) m n h g = simp length-append (omega arith)

small_more : (a : Option (List ℕ)) (m n : ℕ) → Small a m → m ≤ n → Small a n
small_more none m n h l = tt
small_more (some t) m n h l = omega arith

mutual
  small_both : (r s : RowCells) → Small (both r s) (length (words r) + length (words s))
  small_both (named_cells c v m rs) (named_cells d w n ss) =
      small_gate (bit_and m n) _ _ (small_more (then (some (cell_code c (bit_or v w) (bit_and m n))) (boths rs ss)) (3 + (length (all_words rs) + length (all_words ss))) _
      (small_then (some (cell_code c (bit_or v w) (bit_and m n))) (boths rs ss) 3 (length (all_words rs) + length (all_words ss)) (omega arith) (small_boths rs ss)) (omega arith))
  small_both (named_cells c v m rs) (free_cell t w n) = small_gate (bit_and m n) _ _ (omega arith)
  small_both (free_cell t v m) (named_cells d w n ss) = small_gate (bit_and m n) _ _ (omega arith)
  small_both (free_cell t v m) (free_cell u w n) = small_gate (bit_and m n) _ _ (omega arith)

  small_boths : (rs ss : RowsCells) → Small (boths rs ss) (length (all_words rs) + length (all_words ss))
  small_boths no_cells no_cells = omega arith
  small_boths no_cells (more_cells s ss) = tt
  small_boths (more_cells r rs) no_cells = tt
  small_boths (more_cells r rs) (more_cells s ss) =
      small_more (then (both r s) (boths rs ss)) ((length (words r) + length (words s)) + (length (all_words rs) + length (all_words ss))) _
      (small_then (both r s) (boths rs ss) _ _ (small_both r s) (small_boths rs ss)) (simp length-append (omega arith))

small_entry : (K : Kinds) (k n : ℕ) (m : Option Row) → Small (row_code_of K k m) n → length (entries K k (somes (m ∷ []))) ≤ 1 + n
small_entry K k n none h = omega arith
small_entry K k n (some t) h = rw (append-nil (row_code K t k)) (omega arith)

pub one_small : (K : Kinds) (ar : List ℕ) (k : ℕ) (r s : Row) → Typed K ar r k → Typed K ar s k
    → length (entries K k (somes (combine r s ∷ []))) ≤ 1 + (length (row_code K r k) + length (row_code K s k))
one_small K ar k r s t u =
    small_entry K k _ (combine r s) (subst (λ (o : Option (List ℕ)). Small o (length (row_code K r k) + length (row_code K s k))) (same K ar r s k t u) (small_both (cells K r k) (cells K s k)))

unfoldable pub each_task : {ar x y o : List ℕ} → GivenEach ar x y o → Task y
each_task {ar} g = record {
  A = Row;
  B = Row;
  read = λ s. row_code g.K s g.kind;
  write = λ s. row_code g.K s g.kind;
  long = λ s t. code_long g.K g.kind s;
  f = λ s. somes (combine g.r s ∷ []);
  cost = λ s. 1 + (length (row_code g.K g.r g.kind) + length (row_code g.K s g.kind));
  P = λ s. Typed g.K ar s g.kind;
  spare = 0;
  all = g.ss;
  rest = g.rest_y;
  code_is = g.code_y;
  each_is = g.typed_s;
  enough = λ s t. one_small g.K ar g.kind g.r s g.typed_r t;
}

yields_ones : (r : Row) (ss : List Row) → yields (λ s. somes (combine r s ∷ [])) ss ≡ with_each r ss
yields_ones r [] = refl
yields_ones r (s ∷ ss) = go (combine r s) (yields_ones r ss)
  where
    go : (m : Option Row) → yields (λ s. somes (combine r s ∷ [])) ss ≡ with_each r ss → somes (m ∷ []) ++ yields (λ s. somes (combine r s ∷ [])) ss ≡ somes (m ∷ map (combine r) ss)
    go none e = e
    go (some t) e = ap (λ (l : List Row). t ∷ l) e

module _ {ar x y o₀ : List ℕ} (g : GivenEach ar x y o₀) where
  pub start1 : Now (each_task g) 0 0 o₀
  unfolding each_task
  start1 = start (each_task g) o₀ (omega (arith, g.room, room_is g.ss))
    where
      room_is : (ss : List Row) → costs (λ s. 1 + (length (row_code g.K g.r g.kind) + length (row_code g.K s g.kind))) ss ≡ room_for g.K g.kind g.r ss
      room_is [] = refl
      room_is (s ∷ ss) = ap (λ (n : ℕ). (1 + (length (row_code g.K g.r g.kind) + length (row_code g.K s g.kind))) + n) (room_is ss)

module _ {ar x y o₀ : List ℕ} (g : GivenEach ar x y o₀) where
  module _ (at used : ℕ) (o : List ℕ) where
    unfoldable head_one : (s : (each_task g).A) → Head (each_task g) at used o s → GivenOne ar x (from y (at + 1)) (from o used)
    unfolding each_task
    head_one s h = record {
      K = g.K;
      kind = g.kind;
      r = g.r;
      s = s;
      rest_x = g.rest_x;
      rest_y = h.rest;
      code_x = g.code_x;
      code_y = h.code_is;
      typed_r = g.typed_r;
      typed_s = h.is;
      room = h.room;
    }

    pub given1 : Now (each_task g) at used o → 0 < get_or y at 0 → GivenOne ar x (from y (at + 1)) (from o used)
    given1 m h = let q = head (each_task g) at used o m h in head_one q.0 q.1

    pub turn1 : (n : ℕ) (ys : List ℕ) → Now (each_task g) at used o → 0 < get_or y at 0 → ((q : GivenOne ar x (from y (at + 1)) (from o used)) → WrittenFirst (one_entry q) n ys)
        → length ys ≡ length (from o used) → Turned (each_task g) at used n o ys
    unfolding each_task head_one
    turn1 n ys m h f l = turn (each_task g) at used o n ys m h (λ s q. f (head_one s q)) l

    pub end1 : Now (each_task g) at used o → get_or y at 0 ≤ 0 → WrittenFirst (each_entry g) used o
    unfolding each_task
    end1 m z = subst (λ (l : List Row). WrittenFirst (entries g.K g.kind l) used o) (yields_ones g.r g.ss) (end (each_task g) at used o m z).0

-- each with each
pub ones_small : (K : Kinds) (ar : List ℕ) (k : ℕ) (r : Row) (ss : List Row) → Typed K ar r k → AllTyped K ar k ss → length (entries K k (with_each r ss)) ≤ room_for K k r ss
ones_small K ar k r [] t u = omega arith
ones_small K ar k r (s ∷ ss) t u =
    let i = ones_small K ar k r ss t u.1 in
    let h = one_small K ar k r s t u.0 in
    rw (entries_somes K k (combine r s) (map (combine r) ss)) (simp length-append (omega (arith, i, h)))
  where
    entries_somes : (K : Kinds) (k : ℕ) (m : Option Row) (ms : List (Option Row)) → entries K k (somes (m ∷ ms)) ≡ entries K k (somes (m ∷ [])) ++ entries K k (somes ms)
    entries_somes K k none ms = refl
    entries_somes K k (some t) ms = ap (λ (l : List ℕ). length (row_code K t k) ∷ (l ++ entries K k (somes ms))) (sym (append-nil (row_code K t k)))

unfoldable pub product_task : {ar x y o : List ℕ} → GivenProduct ar x y o → Task x
product_task {ar} g = record {
  A = Row;
  B = Row;
  read = λ s. row_code g.K s g.kind;
  write = λ s. row_code g.K s g.kind;
  long = λ s t. code_long g.K g.kind s;
  f = λ r. with_each r g.ss;
  cost = λ r. room_for g.K g.kind r g.ss;
  P = λ r. Typed g.K ar r g.kind;
  spare = 1;
  all = g.rs;
  rest = g.rest_x;
  code_is = g.code_x;
  each_is = g.typed_r;
  enough = λ r t. ones_small g.K ar g.kind r g.ss t g.typed_s;
}

yields_each : (rs ss : List Row) → yields (λ r. with_each r ss) rs ≡ somes (each combine rs ss)
yields_each [] ss = refl
yields_each (r ∷ rs) ss = ap (λ (l : List Row). with_each r ss ++ l) (yields_each rs ss) ∙ sym (somes_append (map (combine r) ss) (each combine rs ss))
  where
    somes_append : (a b : List (Option Row)) → somes (a ++ b) ≡ somes a ++ somes b
    somes_append [] b = refl
    somes_append (none ∷ a) b = somes_append a b
    somes_append (some t ∷ a) b = ap (λ (l : List Row). t ∷ l) (somes_append a b)

-- the end is written
pub end_word : (o w : List ℕ) (n : ℕ) → WrittenFirst w n o → n + 1 ≤ length o → Product w n (set o n 0)
end_word o w n b h = record {
  size = b.0;
  list = rw (add-one n) (take-suc-set o n 0 (omega arith)) ∙ ap (λ (l : List ℕ). l ++ (0 ∷ [])) b.1;
}

pub no_list : (o : List ℕ) → 1 ≤ length o → Product [] 0 (set o 0 0)
no_list [] h = absurd (omega arith)
no_list (a ∷ o) h = record { size = refl; list = refl }

module _ {ar x y o₀ : List ℕ} (g : GivenProduct ar x y o₀) where
  pub start2 : Now (product_task g) 0 0 o₀
  unfolding product_task
  start2 = start (product_task g) o₀ g.room

module _ {ar x y o₀ : List ℕ} (g : GivenProduct ar x y o₀) where
  module _ (at used : ℕ) (o : List ℕ) where
    unfoldable head_each : (r : (product_task g).A) → Head (product_task g) at used o r → GivenEach ar (from x (at + 1)) y (from o used)
    unfolding product_task
    head_each r h = record {
      K = g.K;
      kind = g.kind;
      r = r;
      ss = g.ss;
      rest_x = h.rest;
      rest_y = g.rest_y;
      code_x = h.code_is;
      code_y = g.code_y;
      typed_r = h.is;
      typed_s = g.typed_s;
      room = h.room;
    }

    pub given2 : Now (product_task g) at used o → 0 < get_or x at 0 → GivenEach ar (from x (at + 1)) y (from o used)
    given2 m h = let q = head (product_task g) at used o m h in head_each q.0 q.1

    pub turn2 : (n : ℕ) (ys : List ℕ) → Now (product_task g) at used o → 0 < get_or x at 0 → ((q : GivenEach ar (from x (at + 1)) y (from o used)) → WrittenFirst (each_entry q) n ys)
        → length ys ≡ length (from o used) → Turned (product_task g) at used n o ys
    unfolding product_task head_each
    turn2 n ys m h f l = turn (product_task g) at used o n ys m h (λ s q. f (head_each s q)) l

    pub room2 : Now (product_task g) at used o → get_or x at 0 ≤ 0 → used + 1 ≤ length o
    unfolding product_task
    room2 m z = (end (product_task g) at used o m z).1

    pub end2 : Now (product_task g) at used o → get_or x at 0 ≤ 0 → Product (entries g.K g.kind (products g)) used (set o used 0)
    unfolding product_task
    end2 m z =
        let e = end (product_task g) at used o m z in
        end_word o (entries g.K g.kind (products g)) used
        (subst (λ (l : List Row). WrittenFirst (entries g.K g.kind l) used o) (yields_each g.rs g.ss) e.0) e.1
