-- The rows of rules, and each in the table of rows.
use Rattle.std.specs.Prelude.{◌≡◌, List, [], ◌++◌, ℕ, ◌+◌, ◌-◌, ◌*◌, ◌≤◌, ◌<◌, length, get_or, drop}
use Rattle.std.proofs.Math.Option.{some}
use Rattle.std.proofs.Math.ListN.{get_elem?}
use Rattle.signature.specs.Decoded.{Known}
use Rattle.signature.specs.Signature.{Signature}
use Rattle.pattern.specs.Limits.{pattern_limit}
use Rattle.row.specs.Row.{Row, rcons, rnil}
use Rattle.cell.specs.Cell.{cell_width}
use Rattle.cell.specs.Coded.{kinds_of, row_code}
use Rattle.cell.specs.Cursor.{opens_of}
use Rattle.tree.specs.Tree.{Line}
use Rattle.path.specs.Standing.{RowStands, tag_of}
use Rattle.path.specs.State.{start_of, stop_of, rule_of, plan_of, own_of}

-- a row of a rule
pub record RuleRow : Type 0 where
  pub rule : ℕ
  pub plan : ℕ
  pub row : Row

-- "Each product is a row": its line in the matrix
abbrev pub line_of : RuleRow → Line
line_of e = record { rule = e.rule; plan = e.plan; binds = []; cells = rcons e.row rnil }

-- a row of kind 0, of at most 64 cells
pub record Fit (sig : Signature) (t : List ℕ) (e : RuleRow) : Type 0 where
  pub good : RowStands sig t e.row 0
  pub short : length (row_code (kinds_of sig) e.row 0) ≤ cell_width * pattern_limit

-- what is given of a row's words: so many from a word on
pub record GivenRow (t a : List ℕ) (start len : ℕ) : Type 0 where
  pub known : Known t
  pub row : Row
  pub rest : List ℕ
  pub good : RowStands known.sig t row 0
  pub code_is : drop start a ≡ row_code (kinds_of known.sig) row 0 ++ rest
  pub within : start ≤ length a
  pub len_is : len ≡ length (row_code (kinds_of known.sig) row 0)
  pub short : len ≤ cell_width * pattern_limit

-- words before one stay
abbrev pub Before : ℕ → List ℕ → List ℕ → Type 0
Before k xs ys = (i : ℕ) → i < k → get_or ys i 0 ≡ get_or xs i 0

-- one column is row r's own at its first cell, and each cell leaves those that it opens
pub record RowCounted (t a rows : List ℕ) (r start len : ℕ) : Type 0 where
  pub one : own_of rows r 0 ≡ 1
  pub counts : (q : ℕ) → cell_width * q + cell_width ≤ len → own_of rows r (q + 1) ≡ own_of rows r q - 1 + opens_of t (tag_of a (start + cell_width * q))

-- row r of the table: where its words are, and whose it is
pub record RowIndexed (t a rows : List ℕ) (r start len rule plan : ℕ) : Type 0 where
  pub start_is : start_of rows r ≡ start
  pub stop_is : stop_of rows r ≡ start + len
  pub rule_is : rule_of rows r ≡ rule
  pub plan_is : plan_of rows r ≡ plan
  pub counted : RowCounted t a rows r start len

-- row r of the table is that of e
pub record RowKept (sig : Signature) (t a rows : List ℕ) (r : ℕ) (e : RuleRow) : Type 0 where
  pub start : ℕ
  pub rest : List ℕ
  pub code_is : drop start a ≡ row_code (kinds_of sig) e.row 0 ++ rest
  pub within : start ≤ length a
  pub indexed : RowIndexed t a rows r start (length (row_code (kinds_of sig) e.row 0)) e.rule e.plan

abbrev pub RowsKept : Signature → List ℕ → List ℕ → List ℕ → List RuleRow → Type 0
RowsKept sig t a rows es = (r : ℕ) (e : RuleRow) → get_elem? es r ≡ some e → RowKept sig t a rows r e
