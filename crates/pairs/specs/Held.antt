-- A list of the rows of patterns, which becomes longer.
use Rattle.std.specs.Prelude.{◌≡◌, List, ◌++◌, ℕ, ◌+◌, ◌*◌, ◌≤◌, length}
use Rattle.signature.specs.Decoded.{Known}
use Rattle.pattern.specs.Limits.{pattern_limit}
use Rattle.row.specs.Row.{Row}
use Rattle.cell.specs.Cell.{cell_width}
use Rattle.cell.specs.Coded.{kinds_of}
use Rattle.cell.specs.RowList.{Every, entries, list_code}
use Rattle.rowset.specs.Limits.{row_limit}
use Rattle.builder.specs.Build.{row_room}
use Rattle.meeting.specs.Rows.{Proper}

-- a row has at most 64 cells, and its number of words
abbrev pub row_words : ℕ
row_words = 1 + cell_width * pattern_limit

abbrev pub rows_room : ℕ
rows_room = row_limit * row_words + row_room

-- a list of rows of kind 0 stands first
pub record Listed (t a : List ℕ) : Type 0 where
  pub known : Known t
  pub rs : List Row
  pub rest : List ℕ
  pub code_is : a ≡ list_code (kinds_of known.sig) 0 rs ++ rest
  pub proper : Every (Proper (kinds_of known.sig) t 0) rs
  pub few : length rs ≤ row_limit

-- of so many words, for patterns of this weight, with room for a pattern more
pub record Holding (t : List ℕ) (used weight : ℕ) (a : List ℕ) (m : ℕ) : Type 0 where
  pub listed : Listed t a
  pub used_is : used ≡ length (entries (kinds_of listed.known.sig) 0 listed.rs)
  pub many : length listed.rs ≤ weight
  pub light : weight ≤ row_limit
  pub small : used ≤ weight * row_words
  pub room : rows_room ≤ length a
  pub work_room : row_room ≤ m
