-- The lowest row of lists of rows that some row of one more list meets.
use Rattle.std.specs.Prelude.{◌≡◌, List, ◌++◌, Bool, true, false, ℕ, ◌+◌, ◌≤◌, ◌<◌, length, drop}
use Rattle.std.proofs.Math.Option.{some}
use Rattle.std.proofs.Math.ListN.{get_elem?}
use Rattle.signature.specs.Lists.{any, is_some}
use Rattle.cell.specs.RowList.{Every, list_code}
use Rattle.row.specs.Row.{Row, combine}
use Rattle.rowset.specs.Limits.{row_limit}
use Rattle.meeting.specs.Lists.{GivenLists, rows_in}
use Rattle.meeting.specs.Matrix.{meets}
use Rattle.meeting.specs.Rows.{Proper}

-- the least row that a row from `low` on, below `high`, meets
pub record LeastMet (m : List ℕ) (low high r : ℕ) : Type 0 where
  pub before : (i j : ℕ) → low ≤ i → i < high → j < r → meets m i j ≡ false
  pub there : r < row_limit → (i : ℕ) × (low ≤ i) × (i < high) × (meets m i r ≡ true)

-- n lists stand first, and one more begins at a word; of 256 rows at most
pub record GivenLowest (t a : List ℕ) (n at : ℕ) : Type 0 where
  pub lists : GivenLists t a n
  pub ss : List Row
  pub rest : List ℕ
  pub code_is : drop at a ≡ list_code lists.K lists.kind ss ++ rest
  pub proper : Every (Proper lists.K t lists.kind) ss
  pub room : length (rows_in lists.rss) + length ss ≤ row_limit

-- some row of a list combines with it
abbrev pub met_by : List Row → Row → Bool
met_by ss x = any (λ s. is_some (combine x s)) ss

-- r is the index of the first row that passes a test, or behind all rows where none does
pub record Lowest (f : Row → Bool) (xs : List Row) (r : ℕ) : Type 0 where
  pub before : (j : ℕ) (x : Row) → get_elem? xs j ≡ some x → j < r → f x ≡ false
  pub there : (x : Row) → get_elem? xs r ≡ some x → f x ≡ true
