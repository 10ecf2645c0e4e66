-- A booking that two patterns share, by their lists of rows.
use Rattle.std.specs.Prelude.{◌≡◌, List, ◌++◌, ℕ, ◌≤◌, length, drop, Option as CodeOption, None, Some}
use Rattle.signature.specs.Decoded.{Known}
use Rattle.signature.specs.Limits.{booking_limit}
use Rattle.signature.specs.Lists.{All}
use Rattle.row.specs.Row.{Row}
use Rattle.cell.specs.Coded.{kinds_of, row_code}
use Rattle.cell.specs.RowList.{list_code}
use Rattle.witness.specs.Pair.{Proper}

-- x begins with a row and y with a list of rows, all of one kind, and o has room for a booking
pub record GivenRowList (t x y o : List ℕ) : Type 0 where
  pub known : Known t
  pub kind : ℕ
  pub r : Row
  pub ss : List Row
  pub rest_x : List ℕ
  pub rest_y : List ℕ
  pub proper_r : Proper known.sig kind r
  pub proper_s : All (Proper known.sig kind) ss
  pub code_x : x ≡ row_code (kinds_of known.sig) r kind ++ rest_x
  pub code_y : y ≡ list_code (kinds_of known.sig) kind ss ++ rest_y
  pub room : booking_limit ≤ length o

-- "the booking's length [is] returned, the booking is written first in the witness buffer, the rest untouched"; without one None, and nothing is written.
-- S says that a booking is shared, and which
pub record Shown (S : Type 0) (words : S → List ℕ) (res : CodeOption ℕ) (o o' : List ℕ) : Type 0 where
  pub none_shared : res ≡ None → (S → ⊥) × (o' ≡ o)
  pub one_shared : (n : ℕ) → res ≡ Some n → (s : S) × (n ≡ length (words s)) × (o' ≡ words s ++ drop n o)
