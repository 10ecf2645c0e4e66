-- A value that two rows take, as words.
use Rattle.std.specs.Prelude.{◌≡◌, List, ◌++◌, Bool, true, false, ℕ, ◌≤◌, length, drop, Option as CodeOption, None, Some}
use Rattle.signature.specs.Decoded.{Known}
use Rattle.signature.specs.Lawful.{OfKind}
use Rattle.signature.specs.Limits.{booking_limit, depth_limit}
use Rattle.signature.specs.Signature.{Signature}
use Rattle.signature.specs.Value.{Value, code, size, depth}
use Rattle.pattern.specs.Limits.{pattern_limit}
use Rattle.row.specs.Row.{Row}
use Rattle.row.specs.RowFits.{Good, place_count}
use Rattle.cell.specs.Coded.{kinds_of, row_code}

-- a row as a pattern has it: at most 64 places
pub record Proper (sig : Signature) (k : ℕ) (r : Row) : Type 0 where
  pub good : Good sig k r
  pub few : place_count r ≤ pattern_limit

-- a and b begin with two rows of one kind, and o has room for a booking
pub record GivenPair (t a b o : List ℕ) : Type 0 where
  pub known : Known t
  pub kind : ℕ
  pub r : Row
  pub s : Row
  pub rest_a : List ℕ
  pub rest_b : List ℕ
  pub proper_r : Proper known.sig kind r
  pub proper_s : Proper known.sig kind s
  pub code_a : a ≡ row_code (kinds_of known.sig) r kind ++ rest_a
  pub code_b : b ≡ row_code (kinds_of known.sig) s kind ++ rest_b
  pub room : booking_limit ≤ length o

-- a value within the limits of a booking that passes two tests
pub record Both (sig : Signature) (k : ℕ) (f g : Value → Bool) (v : Value) : Type 0 where
  pub kinded : OfKind sig k v
  pub few : size v ≤ booking_limit
  pub deep : depth v ≤ depth_limit
  pub passes_f : f v ≡ true
  pub passes_g : g v ≡ true

-- none is there: None, and nothing is written; else the words of one in front, so many, and nothing else
abbrev pub Found : (Value → Type 0) → Bool → CodeOption ℕ → List ℕ → List ℕ → Type 0
Found P false res o o' = (res ≡ None) × (o' ≡ o)
Found P true res o o' = (v : Value) × P v × (res ≡ Some (size v)) × (o' ≡ code v ++ drop (size v) o)
