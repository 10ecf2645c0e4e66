-- The pattern in front of the words, and the list of its rows.
use Rattle.std.specs.Prelude.{◌≡◌, List, ◌∷◌, [], ◌++◌, Bool, true, false, ℕ, ◌<◌, ◌+◌, ◌*◌, ◌≤◌, min, length, get_or}
use Rattle.signature.specs.Decoded.{Known}
use Rattle.signature.specs.Signature.{Signature, is_number_kind}
use Rattle.pattern.specs.Pattern.{Pattern, range, pattern_code}
use Rattle.pattern.specs.Limits.{pattern_limit}
use Rattle.pattern.specs.Read.{Form, form, is_head, is_var, is_and, is_or, is_wild, is_absurd, is_not, is_range, is_other}
use Rattle.pattern.specs.Range.{right_range}
use Rattle.pattern.specs.Ranged.{ranged}
use Rattle.pattern.specs.Weight.{light_plus, light_minus, weight_plus}
use Rattle.pattern.specs.WellFormed.{WellFormed, PatternWords}
use Rattle.pattern.specs.Word.{own_words}
use Rattle.sets.specs.Set.{set_of}
use Rattle.builder.specs.declared.build.Making.{Making}
use Rattle.builder.specs.declared.build.Making.TheVariants.{Head, Multiply, Add, One, Nothing, Swap, Range}
use Rattle.cell.specs.Cell.{Kinds, cell_width}
use Rattle.cell.specs.Coded.{kinds_of}
use Rattle.rowlist.specs.Product.{Product}
use Rattle.rowlist.specs.Sides.{rows_of, Open}
use Rattle.cell.specs.RowList.{entries, list_code}
use Rattle.row.specs.Row.{rows_plus}

abbrev pub light_of : Bool → Pattern → Bool
light_of true p = light_plus p
light_of false p = light_minus p

-- words of each slice for each word of a pattern: of a list of at most 64 rows, each with its number and 3 words for each word of the pattern
abbrev pub room_unit : ℕ
room_unit = 256

-- words of each slice for a pattern of n words: one more, for the list's end
abbrev pub room_of : ℕ → ℕ
room_of n = room_unit * n + 1

-- how the rows of a pattern are made on a side, by what its first word is
abbrev pub making_of : Form → Bool → Making
making_of (is_head c) b = Head c
making_of is_and true = Multiply
making_of is_and false = Add
making_of is_or true = Add
making_of is_or false = Multiply
making_of is_wild true = One 0
making_of is_wild false = Nothing
making_of is_absurd true = Nothing
making_of is_absurd false = One 0
making_of is_not b = Swap
making_of (is_var x) true = One (set_of 0 (x ∷ []))
making_of (is_var x) false = Nothing
making_of is_range b = Range
making_of is_other b = Nothing

-- the pattern in front of the words, and room for what is built
pub record GivenPat (t : List ℕ) (tag full : ℕ) (w : List ℕ) (b : Bool) (n m : ℕ) : Type 0 where
  pub known : Known t
  pub k : ℕ
  pub there : k < known.decoded.n
  pub p : Pattern
  pub rest : List ℕ
  pub code_is : w ≡ pattern_code p ++ rest
  pub well : WellFormed known.sig k p
  pub light : light_of b p ≡ true
  pub ranges : ranged p ≡ true
  pub opened : Open (kinds_of known.sig) known.sig k tag full
  pub room : room_of (length (pattern_code p)) ≤ n
  pub work_room : room_of (length (pattern_code p)) ≤ m

-- the pattern in front, whose rows are made in this way, and how many words are its own
pub record GivenAs (made : Making) (t : List ℕ) (tag full own : ℕ) (w : List ℕ) (b : Bool) (n m : ℕ) : Type 0 where
  pub pat : GivenPat t tag full w b n m
  pub word : making_of (form (get_or w 0 0)) b ≡ made
  pub own_is : own ≡ own_words (form (get_or w 0 0))

-- a range in front of the words, at a number kind with its tag and the set of its heads
pub record GivenRange (tag full : ℕ) (w : List ℕ) (n : ℕ) : Type 0 where
  pub sig : Signature
  pub k : ℕ
  pub low : ℕ
  pub high : ℕ
  pub rest : List ℕ
  pub code_is : w ≡ pattern_code (range low high) ++ rest
  pub number : is_number_kind sig k ≡ true
  pub right : right_range low high ≡ true
  pub opened : Open (kinds_of sig) sig k tag full
  pub room : cell_width + 2 ≤ n

-- what was read and written
pub record Made (K : Kinds) (sig : Signature) (k : ℕ) (b : Bool) (p : Pattern) (used read : ℕ) (o : List ℕ) : Type 0 where
  pub read_is : read ≡ length (pattern_code p)
  pub list : Product (entries K k (rows_of sig k b p)) used o

-- a part, of kind k on the side b, in front of the words
pub record GivenPart (t : List ℕ) (k : ℕ) (w : List ℕ) (b : Bool) (n m : ℕ) : Type 0 where
  pub known : Known t
  pub there : k < known.decoded.n
  pub pattern : Pattern
  pub rest : List ℕ
  pub words : w ≡ pattern_code pattern ++ rest
  pub few : length (pattern_code pattern) ≤ pattern_limit
  pub well : WellFormed known.sig k pattern
  pub light : light_of b pattern ≡ true
  pub ranges : ranged pattern ≡ true
  pub room : room_of (length (pattern_code pattern)) ≤ n
  pub work_room : room_of (length (pattern_code pattern)) ≤ m

-- words of each slice for a pattern of 64 words
abbrev pub row_room : ℕ
row_room = room_of pattern_limit

-- words of each slice for a lent pattern of l words: one of over 64 is malformed and has no rows
abbrev pub words_room : ℕ → ℕ
words_room l = room_of (min l pattern_limit)

-- a whole pattern, of kind 0, that passed 7, 18 and 9
pub record GivenWhole (t ws : List ℕ) (n m : ℕ) : Type 0 where
  pub known : Known t
  pub p : Pattern
  pub words : PatternWords known.sig ws p
  pub light : light_plus p ≡ true
  pub ranges : ranged p ≡ true
  pub room : room_of (length ws) ≤ n
  pub work_room : room_of (length ws) ≤ m

-- the list of its rows stands first, of n words without its end: a row for each of its weight at most
pub record RowsFirst (sig : Signature) (p : Pattern) (n : ℕ) (o : List ℕ) : Type 0 where
  pub rest : List ℕ
  pub code_is : o ≡ list_code (kinds_of sig) 0 (rows_plus sig 0 p) ++ rest
  pub size : n + 1 ≡ length (list_code (kinds_of sig) 0 (rows_plus sig 0 p))
  pub small : n ≤ weight_plus p * (1 + cell_width * pattern_limit)
