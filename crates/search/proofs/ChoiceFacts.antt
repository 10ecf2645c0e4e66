-- The rows that meet a branch, and the first of them that takes a value.
use mathlib.Core.Path.{◌≡◌, refl, ap, ◌∙◌, sym}
use mathlib.Core.List.{List, ◌++◌}
use mathlib.Core.Bool.{Bool, true, false, cond, not, ◌&&◌}
use Prim.Native.Nat.{ℕ, ◌+◌, ◌*◌, ◌≤◌, ◌<◌}
use native.Mathlib.Omega.{arith}
use lib.Dec.{eqb}
use lib.ListN.{length, drop}
use Rattle.std.specs.Prelude.{None, Some}
use Rattle.signature.specs.Lists.{is_some}
use Rattle.signature.proofs.Booleans.{and_left}
use Rattle.signature.proofs.Tests.{true≢false, eqb_eq, eqb_ne}
use Rattle.row.specs.Row.{combine}
use Rattle.row.specs.RowFits.{row_fits}
use Rattle.cell.specs.Coded.{kinds_of, row_code}
use Rattle.cell.specs.RowList.{from}
use Rattle.cell.proofs.RowListFacts.{not_both}
use Rattle.cell.proofs.Walk.{from_is}
use Rattle.rowset.specs.Limits.{row_limit}
use Rattle.rowset.specs.Member.{member}
use Rattle.path.specs.State.{row_stride, start_of}
use Rattle.overlap.specs.Pair.{TwoRows}
use Rattle.witness.specs.Pair.{Proper}
use Rattle.witness.proofs.Pairs.{typed_good}
use Rattle.views.specs.Write.{GivenRow}
use Rattle.values.specs.Takes.{GivenTakes}
use Rattle.search.specs.Search.{GivenTable, Placed}
use Rattle.search.specs.Branch.{row_at}
use Rattle.search.specs.Choice.{GivenMeeting, Meeting, GivenTaker, Taker}
use Rattle.search.proofs.RowFacts.{row_there, at_row}

-- a test of a set, and one more
pub not_in : (b m x : Bool) → not b ≡ true → b ≡ m → false ≡ (m && x)
not_in true m x h e = absurd (true≢false (sym h))
not_in false m x h e = rw (← e) refl

pub is_in : (b m x y : Bool) → not b ≡ false → b ≡ m → y ≡ x → y ≡ (m && x)
is_in true m x y h e f = rw (← e) f
is_in false m x y h e f = absurd (true≢false h)

-- row r of the table
module _ {t a rows : List ℕ} {n : ℕ} (g : GivenTable t a rows n) (r : ℕ) (l : r < n) where
  pub table_room : row_stride * r + row_stride ≤ length rows
  table_room = omega (arith, g.long, l)

  pub row_proper : Proper g.known.sig 0 (row_at g.rs r)
  row_proper = at_row g.rs r g.proper (omega (arith, l, g.many))

  pub row_placed : Placed g.known.sig a rows r (row_at g.rs r)
  row_placed = g.placed r (row_at g.rs r) (row_there g.rs r (omega (arith, l, g.many)))

  pub start_le : (start : ℕ) → start ≡ start_of rows r → start ≤ length a
  start_le start e = omega (arith, e, row_placed.within)

  pub row_words : (start : ℕ) → start ≡ start_of rows r → from a start ≡ row_code (kinds_of g.known.sig) (row_at g.rs r) 0 ++ row_placed.rest
  row_words start e = from_is a start ∙ ap (λ (x : ℕ). drop x a) e ∙ row_placed.code_is

  abbrev pub to_row : (start : ℕ) → start ≡ start_of rows r → GivenRow t (from a start)
  to_row start e = record {
    part = record { known = g.known; kind = 0; r = row_at g.rs r; rest = row_placed.rest; good = row_proper.good; code_is = row_words start e };
    few = row_proper.few;
  }

module _ {t a rows : List ℕ} {n : ℕ} {q : List ℕ} (g : GivenMeeting t a rows n q) where
  abbrev pub two_rows : (r start : ℕ) → r < n → start ≡ start_of rows r → TwoRows t q (from a start)
  two_rows r start l e = record {
    K = kinds_of g.table.known.sig;
    kind = 0;
    r = g.row;
    s = row_at g.table.rs r;
    rest_a = g.rest;
    rest_b = (row_placed g.table r l).rest;
    code_a = g.code_is;
    code_b = row_words g.table r l start e;
    typed_r = typed_good g.table.known g.good;
    typed_s = typed_good g.table.known (row_proper g.table r l).good;
  }

  -- one row more
  pub meeting_more : (s live live' : List ℕ) (i : ℕ) (b : Bool) → i < n → Meeting g s i live → b ≡ (member s i && is_some (combine g.row (row_at g.table.rs i))) → ((p : ℕ) → p < row_limit → member live' p ≡ cond (eqb p i) b (member live p)) → Meeting g s (i + 1) live'
  meeting_more s live live' i b l M e h r k = go (eqb r i) refl
    where
      go : (z : Bool) → eqb r i ≡ z → member live' r ≡ (member s r && is_some (combine g.row (row_at g.table.rs r)))
      go true z = let w : r ≡ i = eqb_eq r i z in h r (omega (arith, k, l, g.table.few)) ∙ (rw z (e ∙ (rw w refl)))
      go false z = h r (omega (arith, k, l, g.table.few)) ∙ (rw z (M r (omega (arith, k, eqb_ne r i z))))

module _ {t a rows : List ℕ} {n : ℕ} {b : List ℕ} (g : GivenTaker t a rows n b) where
  abbrev pub to_takes : (r start : ℕ) → r < n → start ≡ start_of rows r → GivenTakes t (from a start) b
  to_takes r start l e = record {
    known = g.table.known;
    kind = 0;
    r = row_at g.table.rs r;
    rest = (row_placed g.table r l).rest;
    good = (row_proper g.table r l).good;
    code_is = row_words g.table r l start e;
    value = g.value;
    kinded = g.kinded;
    words = g.words;
  }

  -- no row of the first i takes it
  abbrev NoneTakes : List ℕ → ℕ → Type 0
  NoneTakes s i = (p : ℕ) → p < i → member s p ≡ true → row_fits (row_at g.table.rs p) g.value ≡ false

  pub none_more : (s : List ℕ) (i : ℕ) (x : Bool) → NoneTakes s i → x ≡ (member s i && row_fits (row_at g.table.rs i) g.value) → x ≡ false → NoneTakes s (i + 1)
  none_more s i x h e f p l m = go (eqb p i) refl
    where
      go : (b : Bool) → eqb p i ≡ b → row_fits (row_at g.table.rs p) g.value ≡ false
      go true z =
          let w : p ≡ i = eqb_eq p i z in
          let y : (member s p && row_fits (row_at g.table.rs p) g.value) ≡ false = rw w (sym e ∙ f) in
          rw m at y
      go false z = h p (omega (arith, l, eqb_ne p i z)) m

  pub taker_at : (s : List ℕ) (r : ℕ) (x : Bool) → r < n → x ≡ (member s r && row_fits (row_at g.table.rs r) g.value) → x ≡ true → Taker g s (Some r)
  taker_at s r x l e f = record {
    there = λ k z. let same : r ≡ k = cc in rw (← same) l;
    one = λ k z. let same : r ≡ k = cc in rw (← same) (and_left (member s r) (row_fits (row_at g.table.rs r) g.value) (sym e ∙ f));
    none_takes = λ z. absurd (not_both {res = Some r} refl z);
  }

  pub taker_none : (s : List ℕ) (i : ℕ) → n ≤ i → NoneTakes s i → Taker g s None
  taker_none s i l h = record {
    there = λ k z. absurd (not_both z refl);
    one = λ k z. absurd (not_both z refl);
    none_takes = λ z r k m. h r (omega (arith, l, k)) m;
  }
