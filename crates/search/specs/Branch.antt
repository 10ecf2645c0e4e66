-- A branch of the search: the values that leave some rows, each at a cell.
use Rattle.std.specs.Prelude.{◌≡◌, List, [], ◌++◌, Bool, true, ◌&&◌, ℕ, zero, suc, ◌+◌, ◌*◌, ◌≤◌, ◌<◌, length, get_or, Option as CodeOption, None, Some}
use Rattle.signature.specs.Lawful.{OfKind}
use Rattle.signature.specs.Limits.{booking_limit}
use Rattle.signature.specs.Signature.{Signature}
use Rattle.signature.specs.Value.{Value, size}
use Rattle.pattern.specs.Limits.{pattern_limit}
use Rattle.row.specs.Row.{Row, free, open_row}
use Rattle.row.specs.RowFits.{Good, row_fits}
use Rattle.cell.specs.Cell.{cell_width}
use Rattle.cell.specs.Coded.{kinds_of, row_code}
use Rattle.rowset.specs.Limits.{row_limit}
use Rattle.views.specs.View.{kept_of, height, view}
use Rattle.search.specs.Search.{GivenTable}

-- a step of a path: a row, the cells of it that are not kept, and the cell at which it is left
abbrev pub step_width : ℕ
step_width = 3

abbrev pub path_length : ℕ
path_length = step_width * row_limit

-- row r of some
abbrev pub row_at : List Row → ℕ → Row
row_at rs r = get_or rs r (free [] [])

module _ (sig : Signature) (rs : List Row) where
  -- a value leaves the row of a step at its cell
  abbrev pub leaves : ℕ → ℕ → ℕ → Value → Bool
  leaves r opened c v = row_fits (view sig (kept_of opened) c 0 0 (row_at rs r)) v

  -- and does so at the first i steps of a path
  abbrev pub on_path : List ℕ → ℕ → Value → Bool
  on_path path zero v = true
  on_path path (suc i) v = on_path path i v && leaves (get_or path (step_width * i) 0) (get_or path (step_width * i + 1) 0) (get_or path (step_width * i + 2) 0) v

-- a path of so many steps, each with one of n rows
pub record GivenPath (n : ℕ) (path : List ℕ) (depth : ℕ) : Type 0 where
  pub long : length path ≡ path_length
  pub most : depth ≤ row_limit
  pub there : (i : ℕ) → i < depth → get_or path (step_width * i) 0 < n

-- q begins with a row that takes exactly the values of a branch: no higher than a pattern has words, of no more cells than a booking has words
pub record Cube (sig : Signature) (rs : List Row) (path : List ℕ) (depth : ℕ) (q : List ℕ) (words : ℕ) : Type 0 where
  pub row : Row
  pub rest : List ℕ
  pub good : Good sig 0 row
  pub low : height row ≤ pattern_limit
  pub code_is : q ≡ row_code (kinds_of sig) row 0 ++ rest
  pub words_are : words ≡ length (row_code (kinds_of sig) row 0)
  pub few : words ≤ cell_width * booking_limit
  pub just : (v : Value) → OfKind sig 0 v → row_fits row v ≡ on_path sig rs path depth v

-- such a row; or None, and no value of the branch is as short as a booking
pub record CubeOf (sig : Signature) (rs : List Row) (path : List ℕ) (depth : ℕ) (res : CodeOption ℕ) (q : List ℕ) : Type 0 where
  pub none_short : res ≡ None → (v : Value) → OfKind sig 0 v → size v ≤ booking_limit → on_path sig rs path depth v ≡ true → ⊥
  pub cube : (words : ℕ) → res ≡ Some words → Cube sig rs path depth q words

-- room for such a row, and for one with a view more
pub record Rooms (q o : ℕ) : Type 0 where
  pub for_cube : cell_width * booking_limit ≤ q
  pub for_both : cell_width * (booking_limit + pattern_limit) ≤ o

pub record GivenBranch (t a rows : List ℕ) (n : ℕ) (path : List ℕ) (depth q o : ℕ) : Type 0 where
  pub table : GivenTable t a rows n
  pub path_is : GivenPath n path depth
  pub rooms : Rooms q o

-- the row of the branch before step i, which is one of the path's
pub record GivenStep (t a rows : List ℕ) (n : ℕ) (path : List ℕ) (depth i words : ℕ) (q o : List ℕ) : Type 0 where
  pub branch : GivenBranch t a rows n path depth (length q) (length o)
  pub before : i < depth
  pub cube : Cube branch.table.known.sig branch.table.rs path i q words

-- the row of all values of kind 0 stands first, in so many words
pub record Opened (sig : Signature) (n : ℕ) (q : List ℕ) : Type 0 where
  pub rest : List ℕ
  pub code_is : q ≡ row_code (kinds_of sig) (open_row sig 0) 0 ++ rest
  pub words_are : n ≡ length (row_code (kinds_of sig) (open_row sig 0) 0)
  pub good : Good sig 0 (open_row sig 0)
