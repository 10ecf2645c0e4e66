-- The rules of a table one after the other: what holds of their patterns so far, and where their rows stand.
use Rattle.std.specs.Prelude.{◌≡◌, List, Result, Ok, Err, [], ◌∷◌, ◌++◌, Bool, true, false, ◌&&◌, ℕ, ◌+◌, ◌*◌, ◌≤◌, eqb, leb, length, take}
use Rattle.signature.specs.Decoded.{Known}
use Rattle.signature.specs.Signature.{Signature}
use Rattle.pattern.specs.Limits.{pattern_limit}
use Rattle.pattern.specs.Pattern.{Pattern}
use Rattle.pattern.specs.Ranged.{ranged}
use Rattle.pattern.specs.Weight.{weight, weight_plus, light_plus}
use Rattle.pattern.specs.WellFormed.{PatternWords}
use Rattle.row.specs.Admitted.{refusal_of_pattern}
use Rattle.row.specs.Row.{rows_plus}
use Rattle.cell.specs.Cell.{cell_width}
use Rattle.cell.specs.Coded.{kinds_of}
use Rattle.cell.specs.RowList.{list_code}
use Rattle.table.specs.Limits.{limits}
use Rattle.builder.specs.Build.{row_room, words_room}
use Rattle.loading.specs.Lists.{lists_for}
use Rattle.loading.specs.declared.add.LoadError.{LoadError}
use Rattle.loading.specs.declared.add.LoadError.TheVariants.{Unsound, NoRoom}

-- what the patterns weigh in all
abbrev pub weights : Signature → List (List ℕ) → ℕ
weights sig [] = 0
weights sig (ws ∷ wss) = weight sig ws + weights sig wss

-- a row has at most 64 cells, and its number of words
abbrev pub row_words : ℕ
row_words = 1 + cell_width * pattern_limit

-- words of the lists of patterns of this weight: besides their rows, each has its number of words and its end
abbrev pub lists_room : ℕ → ℕ → ℕ
lists_room w n = w * row_words + 2 * n

-- room for all rules of a table, and for one pattern more
abbrev pub rows_room : ℕ
rows_room = lists_room limits.weight limits.rules + 1 + row_room

-- slices of n and m words that are too small for some table
abbrev pub TooSmall : ℕ → ℕ → Type 0
TooSmall n m = rows_room ≤ n → row_room ≤ m → ⊥

-- whether there is room for the rows of l words behind the words that are used
abbrev pub has_room : ℕ → ℕ → ℕ → ℕ → Bool
has_room l used n m = leb (used + 1 + words_room l) n && leb (words_room l) m

-- a pattern past 7 and 9, and room behind the words that are used
pub record GivenPlace (t ws : List ℕ) (used n m : ℕ) : Type 0 where
  pub known : Known t
  pub p : Pattern
  pub words : PatternWords known.sig ws p
  pub light : light_plus p ≡ true
  pub ranges : ranged p ≡ true
  pub room : used + 1 + words_room (length ws) ≤ n
  pub work_room : words_room (length ws) ≤ m

-- the list of its rows stands there, behind its number of words
pub record ListPlaced (sig : Signature) (p : Pattern) (used r : ℕ) (rows rows' : List ℕ) : Type 0 where
  pub rest : List ℕ
  pub code_is : rows' ≡ take used rows ++ (length (list_code (kinds_of sig) 0 (rows_plus sig 0 p)) ∷ (list_code (kinds_of sig) 0 (rows_plus sig 0 p) ++ rest))
  pub next : r ≡ used + 1 + length (list_code (kinds_of sig) 0 (rows_plus sig 0 p))
  pub small : r ≤ used + 2 + weight_plus p * row_words

-- the lists of the patterns so far stand first
pub record GivenAdd (t : List ℕ) (used total : ℕ) (rows : List ℕ) : Type 0 where
  pub known : Known t
  pub wss : List (List ℕ)
  pub rest : List ℕ
  pub code_is : rows ≡ lists_for known.sig wss ++ rest
  pub used_is : used ≡ length (lists_for known.sig wss)
  pub few : length wss ≤ limits.rules
  pub total_is : total ≡ weights known.sig wss
  pub light : total ≤ limits.weight
  pub small : used ≤ lists_room total (length wss)

-- a pattern that can go with these, unless it shares a booking: past 7 to 10, and not too heavy
abbrev pub goes_with : Signature → List (List ℕ) → List ℕ → Bool
goes_with sig wss ws = eqb (refusal_of_pattern sig ws) 0 && leb (weight sig ws + weights sig wss) limits.weight

-- of slices of n and m words
abbrev pub Stepped : Signature → List (List ℕ) → List ℕ → ℕ → ℕ → Result (ℕ × ℕ) LoadError → List ℕ → Type 0
Stepped sig wss ws n m (Err NoRoom) rows = TooSmall n m
Stepped sig wss ws n m (Err Unsound) rows = goes_with sig wss ws ≡ false
Stepped sig wss ws n m (Ok (used, total)) rows = (goes_with sig wss ws ≡ true) × (total ≡ weight sig ws + weights sig wss) × (used ≡ length (lists_for sig (wss ++ (ws ∷ [])))) × ((rest : List ℕ) × (rows ≡ lists_for sig (wss ++ (ws ∷ [])) ++ rest)) × (used ≤ lists_room total (length (wss ++ (ws ∷ []))))
