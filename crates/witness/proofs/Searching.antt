-- A row with each row of a list, until two of them have a value in common.
use mathlib.Core.Path.{◌≡◌, refl, sym, subst}
use mathlib.Core.List.{List}
use mathlib.Core.Bool.{Bool, true, false, not}
use Prim.Native.Nat.{ℕ, ◌+◌, ◌≤◌, ◌<◌}
use lib.ListN.{get_or}
use Rattle.std.specs.Prelude.{Option as CodeOption, None, Some}
use Rattle.signature.specs.Decoded.{Known}
use Rattle.signature.specs.Lists.{All, none_left, also, is_some, is_empty}
use Rattle.signature.specs.Value.{Value}
use Rattle.signature.proofs.ListFacts.{all_in, in_any}
use Rattle.row.specs.Row.{Row, combine}
use Rattle.row.specs.RowFits.{row_fits, fits_some}
use Rattle.cell.specs.Coded.{kinds_of}
use Rattle.cell.specs.RowList.{from}
use Rattle.cell.proofs.RowListFacts.{not_both}
use Rattle.rowlist.specs.Product.{AllTyped, with_each}
use Rattle.overlap.specs.Lists.{RowByList}
use Rattle.overlap.specs.Pair.{TwoRows}
use Rattle.overlap.proofs.Search.{Now, Head, head, row_task, found1, end1}
use Rattle.witness.specs.Lists.{GivenRowList}
use Rattle.witness.specs.Pair.{Proper, GivenPair, Both, Found}
use Rattle.witness.proofs.Pairs.{typed_good}

-- what an answer says
pub found_some : (P : Value → Type 0) (b : Bool) (res : CodeOption ℕ) (o o' : List ℕ) → Found P b res o o' → (n : ℕ) → res ≡ Some n → b ≡ true
found_some P true res o o' f n h = refl
found_some P false res o o' f n h = absurd (not_both h f.0)

pub found_none : (P : Value → Type 0) (b : Bool) (res : CodeOption ℕ) (o o' : List ℕ) → Found P b res o o' → res ≡ None → (b ≡ false) × (o' ≡ o)
found_none P true res o o' f h = absurd (not_both f.2 h)
found_none P false res o o' f h = (refl, f.1)

pub typed_proper : {t : List ℕ} (g : Known t) {k : ℕ} {rs : List Row} → All (Proper g.sig k) rs → AllTyped (kinds_of g.sig) t k rs
typed_proper g none_left = tt
typed_proper g (also r h a) = (typed_good g h.good, typed_proper g a)

module _ {t x y o : List ℕ} (g : GivenRowList t x y o) where
  unfoldable pub by_rows : RowByList t x y
  by_rows = record {
    K = kinds_of g.known.sig;
    kind = g.kind;
    r = g.r;
    ss = g.ss;
    rest_x = g.rest_x;
    rest_y = g.rest_y;
    code_x = g.code_x;
    code_y = g.code_y;
    typed_r = typed_good g.known g.proper_r.good;
    typed_s = typed_proper g.known g.proper_s;
  }

  module _ (at : ℕ) where
    unfoldable pair_of : (s : Row) → Head (row_task by_rows) at s → GivenPair t x (from y (at + 1)) o
    unfolding row_task by_rows
    pair_of s h = record {
      known = g.known;
      kind = g.kind;
      r = g.r;
      s = s;
      rest_a = g.rest_x;
      rest_b = h.rest;
      proper_r = g.proper_r;
      proper_s = all_in g.proper_s h.member;
      code_a = g.code_x;
      code_b = h.code_is;
      room = g.room;
    }

    unfoldable rows_of : (s : Row) → Head (row_task by_rows) at s → TwoRows t x (from y (at + 1))
    unfolding row_task by_rows
    rows_of s h = record { K = kinds_of g.known.sig; kind = g.kind; r = g.r; s = s; rest_a = g.rest_x; rest_b = h.rest; code_a = g.code_x; code_b = h.code_is; typed_r = by_rows.typed_r; typed_s = h.typed }

    found_at : (s : Row) → Head (row_task by_rows) at s → ((q : TwoRows t x (from y (at + 1))) → true ≡ is_some (combine q.r q.s)) → (res : CodeOption ℕ) (o' : List ℕ)
        → ((q : GivenPair t x (from y (at + 1)) o) → Found (Both q.known.sig q.kind (row_fits q.r) (row_fits q.s)) (is_some (combine q.r q.s)) res o o')
        → Found (Both g.known.sig g.kind (row_fits g.r) (fits_some g.ss)) true res o o'
    unfolding row_task by_rows pair_of rows_of
    found_at s d M res o' F =
        let (v, B, c, l) = subst (λ (b : Bool). Found (Both g.known.sig g.kind (row_fits g.r) (row_fits s)) b res o o') (sym (M (rows_of s d))) (F (pair_of s d)) in
        (v, record { kinded = B.kinded; few = B.few; deep = B.deep; passes_f = B.passes_f; passes_g = in_any (λ q. row_fits q v) g.ss s d.member B.passes_g }, c, l)

    -- in a turn the slice is as it was
    module _ (m : Now (row_task by_rows) at) (h : 0 < get_or y at 0) (out : List ℕ) (e : out ≡ o) where
      pub pair_given : GivenPair t x (from y (at + 1)) out
      pair_given = let q = head (row_task by_rows) at m h in rw e (pair_of q.0 q.1)

      pub found_pair : ((q : TwoRows t x (from y (at + 1))) → true ≡ is_some (combine q.r q.s)) → (res : CodeOption ℕ) (o' : List ℕ)
          → ((q : GivenPair t x (from y (at + 1)) out) → Found (Both q.known.sig q.kind (row_fits q.r) (row_fits q.s)) (is_some (combine q.r q.s)) res out o')
          → Found (Both g.known.sig g.kind (row_fits g.r) (fits_some g.ss)) (not (is_empty (with_each g.r g.ss))) res o o'
      unfolding by_rows
      found_pair M res o' F =
          let q = head (row_task by_rows) at m h in
          subst (λ (b : Bool). Found (Both g.known.sig g.kind (row_fits g.r) (fits_some g.ss)) b res o o') (found1 by_rows at m h M) (found_at q.0 q.1 M res o' (rw e at F))

    pub none_found : Now (row_task by_rows) at → get_or y at 0 ≤ 0 → (out : List ℕ) → out ≡ o → Found (Both g.known.sig g.kind (row_fits g.r) (fits_some g.ss)) (not (is_empty (with_each g.r g.ss))) None o out
    unfolding by_rows
    none_found m z out e = subst (λ (b : Bool). Found (Both g.known.sig g.kind (row_fits g.r) (fits_some g.ss)) b None o out) (end1 by_rows at m z) (refl, e)
