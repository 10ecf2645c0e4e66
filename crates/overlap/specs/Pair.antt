-- Two rows of one kind, at the front of two slices.
use Rattle.std.specs.Prelude.{◌≡◌, List, ◌++◌, ℕ}
use Rattle.cell.specs.Cell.{Kinds}
use Rattle.cell.specs.Coded.{row_code, Typed}
use Rattle.row.specs.Row.{Row}

pub record TwoRows (ar a b : List ℕ) : Type 0 where
  pub K : Kinds
  pub kind : ℕ
  pub r : Row
  pub s : Row
  pub rest_a : List ℕ
  pub rest_b : List ℕ
  pub code_a : a ≡ row_code K r kind ++ rest_a
  pub code_b : b ≡ row_code K s kind ++ rest_b
  pub typed_r : Typed K ar r kind
  pub typed_s : Typed K ar s kind
