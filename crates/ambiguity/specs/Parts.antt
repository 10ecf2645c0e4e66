-- Parts of a pattern at the front of some words, at a side, with room for their rows.
use Rattle.std.specs.Prelude.{◌≡◌, List, ◌++◌, Bool, true, false, ℕ, ◌+◌, ◌*◌, ◌≤◌, ◌<◌, length, drop}
use Rattle.signature.specs.Decoded.{Known, decoded_length}
use Rattle.signature.specs.Signature.{Signature}
use Rattle.pattern.specs.Limits.{pattern_limit}
use Rattle.pattern.specs.Pattern.{Pattern, pattern_code}
use Rattle.pattern.specs.Ranged.{ranged}
use Rattle.pattern.specs.WellFormed.{WellFormed}
use Rattle.row.specs.Overlap.{overlap, overlap_minus}
use Rattle.row.specs.Row.{Row}
use Rattle.cell.specs.Cell.{Kinds}
use Rattle.cell.specs.RowList.{Every, list_code}
use Rattle.rowset.specs.Limits.{row_limit}
use Rattle.rowset.specs.Member.{set_words}
use Rattle.meeting.specs.Rows.{Proper}
use Rattle.builder.specs.Build.{light_of, room_of}

-- two patterns of kind k, and room for a word more than theirs
pub record GivenTwo (t : List ℕ) (k : ℕ) (w : List ℕ) (b : Bool) (n m : ℕ) : Type 0 where
  pub known : Known t
  pub there : k < known.decoded.n
  pub first : Pattern
  pub second : Pattern
  pub rest : List ℕ
  pub words : w ≡ pattern_code first ++ (pattern_code second ++ rest)
  pub few : length (pattern_code first) + length (pattern_code second) ≤ pattern_limit
  pub well_first : WellFormed known.sig k first
  pub well_second : WellFormed known.sig k second
  pub light_first : light_of b first ≡ true
  pub light_second : light_of b second ≡ true
  pub ranges_first : ranged first ≡ true
  pub ranges_second : ranged second ≡ true
  pub room : room_of (1 + length (pattern_code first) + length (pattern_code second)) ≤ n
  pub work_room : room_of (1 + length (pattern_code first) + length (pattern_code second)) ≤ m

-- two lists of rows of one kind, in front and from a word on, and room for the matrix of all their rows
pub record GivenLists (t a : List ℕ) (at room : ℕ) : Type 0 where
  pub K : Kinds
  pub kind : ℕ
  pub rs : List Row
  pub ss : List Row
  pub rest_first : List ℕ
  pub rest_second : List ℕ
  pub code_first : a ≡ list_code K kind rs ++ rest_first
  pub code_second : drop at a ≡ list_code K kind ss ++ rest_second
  pub proper_first : Every (Proper K t kind) rs
  pub proper_second : Every (Proper K t kind) ss
  pub few : length rs + length ss ≤ row_limit
  pub roomy : set_words * (length rs + length ss) ≤ room
  pub long : length t ≡ decoded_length

-- some value of kind k fits both; on the minus side, fails both
abbrev pub meets : Bool → Signature → ℕ → Pattern → Pattern → Bool
meets true sig k p q = overlap sig k p q
meets false sig k p q = overlap_minus sig k p q
