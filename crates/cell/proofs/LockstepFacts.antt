-- Two rows of the definitions, by their cells.
use mathlib.Core.Path.{◌≡◌, subst}
use mathlib.Core.List.{List, ◌++◌}
use mathlib.Core.Option.{Option}
use Prim.Native.Nat.{ℕ, ◌+◌, ◌≤◌}
use lib.ListN.{length}
use Rattle.std.specs.Prelude.{Option as CodeOption}
use Rattle.cell.specs.Cell.{Kinds, RowCells, words}
use Rattle.cell.specs.Coded.{cells, row_code_of}
use Rattle.cell.specs.Lockstep.{GivenRows, Result}
use Rattle.row.specs.Row.{combine}
use Rattle.cell.proofs.CellFacts.{Of, both}
use Rattle.cell.proofs.CodedFacts.{of_cells, same}

-- a and b begin with the words of two rows of one kind, and o has room for both
pub record Given (ar a b o : List ℕ) : Type 0 where
  pub K : Kinds
  pub kind : ℕ
  pub r : RowCells
  pub s : RowCells
  pub rest_a : List ℕ
  pub rest_b : List ℕ
  pub code_a : a ≡ words r ++ rest_a
  pub code_b : b ≡ words s ++ rest_b
  pub of_r : Of K ar r kind
  pub of_s : Of K ar s kind
  pub room : length (words r) + length (words s) ≤ length o

pub as_cells : {ar a b o : List ℕ} → GivenRows ar a b o → Given ar a b o
as_cells {ar} g = record {
  K = g.K;
  kind = g.kind;
  r = cells g.K g.r g.kind;
  s = cells g.K g.s g.kind;
  rest_a = g.rest_a;
  rest_b = g.rest_b;
  code_a = g.code_a;
  code_b = g.code_b;
  of_r = of_cells g.K ar g.r g.kind g.typed_r;
  of_s = of_cells g.K ar g.s g.kind g.typed_s;
  room = g.room;
}

-- a result for the cells is one for the rows
pub of_rows : {ar a b o : List ℕ} (g : GivenRows ar a b o) (res : CodeOption ℕ) (e o' : List ℕ)
    → Result (both (as_cells g).r (as_cells g).s) res e o' → Result (row_code_of g.K g.kind (combine g.r g.s)) res e o'
unfolding as_cells
of_rows {ar} g res e o' h = subst (λ (t : Option (List ℕ)). Result t res e o') (same g.K ar g.r g.s g.kind g.typed_r g.typed_s) h
