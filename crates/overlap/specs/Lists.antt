-- Rows and lists of rows, all of one kind, at the front of two slices.
use Rattle.std.specs.Prelude.{◌≡◌, List, ◌++◌, ℕ}
use Rattle.cell.specs.Cell.{Kinds}
use Rattle.cell.specs.Coded.{row_code, Typed}
use Rattle.rowlist.specs.Product.{AllTyped}
use Rattle.row.specs.Row.{Row}
use Rattle.cell.specs.RowList.{list_code}

pub record RowByList (ar x y : List ℕ) : Type 0 where
  pub K : Kinds
  pub kind : ℕ
  pub r : Row
  pub ss : List Row
  pub rest_x : List ℕ
  pub rest_y : List ℕ
  pub code_x : x ≡ row_code K r kind ++ rest_x
  pub code_y : y ≡ list_code K kind ss ++ rest_y
  pub typed_r : Typed K ar r kind
  pub typed_s : AllTyped K ar kind ss

pub record TwoLists (ar x y : List ℕ) : Type 0 where
  pub K : Kinds
  pub kind : ℕ
  pub rs : List Row
  pub ss : List Row
  pub rest_x : List ℕ
  pub rest_y : List ℕ
  pub code_x : x ≡ list_code K kind rs ++ rest_x
  pub code_y : y ≡ list_code K kind ss ++ rest_y
  pub typed_r : AllTyped K ar kind rs
  pub typed_s : AllTyped K ar kind ss
