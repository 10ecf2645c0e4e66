-- Two rows of one kind as one: what is given, answered and left.
use Rattle.std.specs.Prelude.{◌≡◌, List, ◌++◌, ℕ, ◌+◌, ◌≤◌, length, drop}
use Rattle.std.proofs.Math.Option.{Option, none, some}
use Rattle.std.specs.Prelude.{Option as CodeOption, None, Some}
use Rattle.cell.specs.Cell.{Kinds}
use Rattle.cell.specs.Coded.{row_code, Typed}
use Rattle.row.specs.Row.{Row}

-- a and b begin with two rows of one kind, and o has room for both
pub record GivenRows (ar a b o : List ℕ) : Type 0 where
  pub K : Kinds
  pub kind : ℕ
  pub r : Row
  pub s : Row
  pub rest_a : List ℕ
  pub rest_b : List ℕ
  pub code_a : a ≡ row_code K r kind ++ rest_a
  pub code_b : b ≡ row_code K s kind ++ rest_b
  pub typed_r : Typed K ar r kind
  pub typed_s : Typed K ar s kind
  pub room : length (row_code K r kind) + length (row_code K s kind) ≤ length o

-- what the call answers and leaves, of the words of the two rows as one
abbrev pub Result : Option (List ℕ) → CodeOption ℕ → List ℕ → List ℕ → Type 0
Result none res o o' = res ≡ None
Result (some w) res o o' = (res ≡ Some (length w)) × (o' ≡ w ++ drop (length w) o)
