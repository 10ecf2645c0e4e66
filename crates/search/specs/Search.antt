-- A value that no row of a table of rows takes.
use Rattle.std.specs.Prelude.{◌≡◌, List, ◌++◌, false, ℕ, ◌*◌, ◌≤◌, length, take, drop, Option as CodeOption, None, Some}
use Rattle.std.proofs.Math.Option.{some}
use Rattle.std.proofs.Math.ListN.{get_elem?}
use Rattle.signature.specs.Decoded.{Known}
use Rattle.signature.specs.Lawful.{OfKind}
use Rattle.signature.specs.Limits.{booking_limit, depth_limit}
use Rattle.signature.specs.Lists.{All}
use Rattle.signature.specs.Signature.{Signature}
use Rattle.signature.specs.Value.{Value, code, size, depth}
use Rattle.row.specs.Row.{Row}
use Rattle.row.specs.RowFits.{fits_some}
use Rattle.cell.specs.Coded.{kinds_of, row_code}
use Rattle.witness.specs.Pair.{Proper}
use Rattle.rowset.specs.Limits.{row_limit}
use Rattle.path.specs.State.{row_stride, start_of}

-- row r of the table of rows is e: its words begin at a word of a
pub record Placed (sig : Signature) (a rows : List ℕ) (r : ℕ) (e : Row) : Type 0 where
  pub rest : List ℕ
  pub code_is : drop (start_of rows r) a ≡ row_code (kinds_of sig) e 0 ++ rest
  pub within : start_of rows r ≤ length a

-- a table of n rows of kind 0
pub record GivenTable (t a rows : List ℕ) (n : ℕ) : Type 0 where
  pub known : Known t
  pub rs : List Row
  pub many : n ≡ length rs
  pub few : n ≤ row_limit
  pub long : row_stride * n ≤ length rows
  pub proper : All (Proper known.sig 0) rs
  pub placed : (r : ℕ) (e : Row) → get_elem? rs r ≡ some e → Placed known.sig a rows r e

-- a value within the limits of a booking that no row takes
pub record Missed (sig : Signature) (rs : List Row) (v : Value) : Type 0 where
  pub kinded : OfKind sig 0 v
  pub few : size v ≤ booking_limit
  pub deep : depth v ≤ depth_limit
  pub taken_by_none : fits_some rs v ≡ false

-- None where there is none; else the words of one stand first, so many
pub record Searched (sig : Signature) (rs : List Row) (res : CodeOption ℕ) (o : List ℕ) : Type 0 where
  pub none_there : res ≡ None → (v : Value) → Missed sig rs v → ⊥
  pub one_there : (n : ℕ) → res ≡ Some n → (v : Value) × Missed sig rs v × (n ≡ size v) × (take n o ≡ code v)
