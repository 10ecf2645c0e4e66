-- The rows that meet the row of a branch, and the first of them that takes a value.
use Rattle.std.specs.Prelude.{◌≡◌, List, ◌++◌, true, false, ◌&&◌, ℕ, ◌<◌, Option as CodeOption, None, Some}
use Rattle.signature.specs.Lawful.{OfKind}
use Rattle.signature.specs.Lists.{is_some}
use Rattle.signature.specs.Value.{Value, code}
use Rattle.row.specs.Row.{Row, combine}
use Rattle.row.specs.RowFits.{Good, row_fits}
use Rattle.cell.specs.Coded.{kinds_of, row_code}
use Rattle.rowset.specs.Member.{member}
use Rattle.search.specs.Search.{GivenTable}
use Rattle.search.specs.Branch.{row_at}

-- a table of rows, and q begins with a row of kind 0
pub record GivenMeeting (t a rows : List ℕ) (n : ℕ) (q : List ℕ) : Type 0 where
  pub table : GivenTable t a rows n
  pub row : Row
  pub rest : List ℕ
  pub good : Good table.known.sig 0 row
  pub code_is : q ≡ row_code (kinds_of table.known.sig) row 0 ++ rest

-- of the first m rows, those of the set s that meet it
abbrev pub Meeting : {t a rows : List ℕ} {n : ℕ} {q : List ℕ} → GivenMeeting t a rows n q → List ℕ → ℕ → List ℕ → Type 0
Meeting g s m live = (r : ℕ) → r < m → member live r ≡ (member s r && is_some (combine g.row (row_at g.table.rs r)))

-- a table of rows, and b is a value of kind 0
pub record GivenTaker (t a rows : List ℕ) (n : ℕ) (b : List ℕ) : Type 0 where
  pub table : GivenTable t a rows n
  pub value : Value
  pub kinded : OfKind table.known.sig 0 value
  pub words : b ≡ code value

-- the first row of the set that takes it, or None
pub record Taker {t a rows : List ℕ} {n : ℕ} {b : List ℕ} (g : GivenTaker t a rows n b) (s : List ℕ) (res : CodeOption ℕ) : Type 0 where
  pub there : (r : ℕ) → res ≡ Some r → r < n
  pub one : (r : ℕ) → res ≡ Some r → member s r ≡ true
  pub none_takes : res ≡ None → (r : ℕ) → r < n → member s r ≡ true → row_fits (row_at g.table.rs r) g.value ≡ false

-- d and e begin with such rows
pub record GivenMeetings (t a rows : List ℕ) (n : ℕ) (d e : List ℕ) : Type 0 where
  pub first : GivenMeeting t a rows n d
  pub second : GivenMeeting t a rows n e
