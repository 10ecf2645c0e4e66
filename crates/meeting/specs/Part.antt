-- A row, or a part of one, whose words begin at a word.
use Rattle.std.specs.Prelude.{◌≡◌, List, ◌++◌, Bool, ◌&&◌, ℕ, ◌≤◌, eqb, length, drop}
use Rattle.sets.specs.Heads.{number_of}
use Rattle.cell.specs.Cell.{Kinds, all_words}
use Rattle.cell.specs.Coded.{row_code, all_cells, Typed, Typeds}
use Rattle.cell.specs.Cursor.{join_of}
use Rattle.cell.specs.declared.cell.Cell.{Cell}
use Rattle.row.specs.Row.{Row, Rows}

-- the row r of a kind, from a word of a on
pub record RowAt (K : Kinds) (t a : List ℕ) (kind at : ℕ) (r : Row) : Type 0 where
  pub rest : List ℕ
  pub code_is : drop at a ≡ row_code K r kind ++ rest
  pub within : at ≤ length a
  pub typed : Typed K t r kind

-- the arguments rs of kinds ks
pub record RowsAt (K : Kinds) (t a ks : List ℕ) (at : ℕ) (rs : Rows) : Type 0 where
  pub rest : List ℕ
  pub code_is : drop at a ≡ all_words (all_cells K rs ks) ++ rest
  pub within : at ≤ length a
  pub typed : Typeds K t rs ks

-- some row begins there
pub record GivenPart (t a : List ℕ) (at : ℕ) : Type 0 where
  pub K : Kinds
  pub kind : ℕ
  pub r : Row
  pub there : RowAt K t a kind at r

-- two cells of one place are one: what they bind tells rows not apart
abbrev pub same_cell : Cell → Cell → Bool
same_cell c d = eqb c.tag d.tag && eqb (number_of c.allowed) (number_of d.allowed)

-- no head is allowed by both
abbrev pub apart_cell : Cell → Cell → Bool
apart_cell c d = eqb (number_of (join_of c d).allowed) 0
