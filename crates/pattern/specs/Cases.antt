-- What Case T and "Where a reader of the paper slips" say of patterns, and ranges. The function `cases` promises them.
use Rattle.std.specs.Prelude.{◌≡◌, List, [], ◌∷◌, true, false, ℕ, zero, suc}
use Rattle.std.proofs.Math.Option.{none, some}
use Rattle.signature.specs.Cases.{T, L}
use Rattle.signature.specs.Lists.{is_some}
use Rattle.signature.specs.Value.{Value, con, vnil}
use Rattle.pattern.specs.Linear.{linear_plus, linear_minus}
use Rattle.pattern.specs.Match.{Binds, Fits, Fails}
use Rattle.pattern.specs.Pattern.{Pattern, head, and, or, wild, absurd_pat, neg, var, range, pnil, pcons}
use Rattle.pattern.specs.Ranged.{ranged}
use Rattle.pattern.specs.Read.{read_pattern}
use Rattle.pattern.specs.Weight.{weight_plus, weight_minus, light_plus}

-- an "or" of suc n wildcards
abbrev pub ors : ℕ → Pattern
ors zero = wild
ors (suc n) = or wild (ors n)

-- its words
abbrev pub ors_words : ℕ → List ℕ
ors_words zero = 258 ∷ []
ors_words (suc n) = 257 ∷ 258 ∷ ors_words n

pub record Cases : Type 0 where
  -- "Dropping variables under not (260 260 261 binds)": it takes all, variable 0 at its place; 260 261 takes none
  pub not_not_binds : (v : Value) (i : ℕ) → Fits (neg (neg (var 0))) v i ((0, i) ∷ [])
  pub not_variable : (v : Value) (i : ℕ) (σ : Binds) → Fits (neg (var 0)) v i σ → ⊥
  -- "Letting the left of an "or" win": the right one fits as well, though the left one does
  pub left_fits : (v : Value) (i : ℕ) → Fits (or (var 0) wild) v i ((0, i) ∷ [])
  pub right_fits : (v : Value) (i : ℕ) → Fits (or (var 0) wild) v i []
  -- words read as patterns; malformed: a variable 16, no pattern, words left over, cut short, a constructor of another kind, one outside the signature
  pub read_7 : read_pattern T (0 ∷ 1 ∷ 261 ∷ []) ≡ some (head 0 (pcons (head 1 pnil) (pcons (var 0) pnil)))
  pub read_9 : read_pattern T (0 ∷ 260 ∷ 1 ∷ 5 ∷ []) ≡ some (head 0 (pcons (neg (head 1 pnil)) (pcons (head 5 pnil) pnil)))
  pub variable_15 : read_pattern T (276 ∷ []) ≡ some (var 15)
  pub variable_16 : read_pattern T (277 ∷ []) ≡ none
  pub no_word : read_pattern T [] ≡ none
  pub left_over : read_pattern T (258 ∷ 258 ∷ []) ≡ none
  pub cut_short : read_pattern T (256 ∷ 258 ∷ []) ≡ none
  pub other_kind : read_pattern T (0 ∷ 5 ∷ 258 ∷ []) ≡ none
  pub outside : read_pattern T (6 ∷ []) ≡ none
  -- 63 words and 65 words
  pub long : is_some (read_pattern T (ors_words 31)) ≡ true
  pub too_long : read_pattern T (ors_words 32) ≡ none
  -- 8: 256 261 261, 257 261 258 and 260 0 260 261 258 are not linear-plus, 257 261 261 and 260 0 261 258 are; variables that never bind are free
  pub and_twice : linear_plus (and (var 0) (var 0)) ≡ false
  pub or_unequal : linear_plus (or (var 0) wild) ≡ false
  pub or_twice : linear_plus (or (var 0) (var 0)) ≡ true
  pub not_con : linear_plus (neg (head 0 (pcons (var 0) (pcons wild pnil)))) ≡ true
  pub not_con_not : linear_plus (neg (head 0 (pcons (neg (var 0)) (pcons wild pnil)))) ≡ false
  pub dead_twice : linear_plus (neg (and (var 0) (var 0))) ≡ true
  -- 9: "And" of two "or"s of 8 and 8 wildcards weighs 64; of 5 and 13, 65; a part of 72 counts, though the whole weighs 0
  pub weight_64 : weight_plus (and (ors 7) (ors 7)) ≡ 64
  pub light_64 : light_plus (and (ors 7) (ors 7)) ≡ true
  pub weight_65 : weight_plus (and (ors 4) (ors 12)) ≡ 65
  pub heavy_65 : light_plus (and (ors 4) (ors 12)) ≡ false
  pub hidden_weight : weight_plus (and absurd_pat (and (ors 7) (ors 8))) ≡ 0
  pub hidden_heavy : light_plus (and absurd_pat (and (ors 7) (ors 8))) ≡ false
  -- 02, job 1: ranges under the signature L; malformed: cut short, at another kind, a level as a word of a pattern, the constructor number of a number kind
  pub read_range : read_pattern L (0 ∷ 258 ∷ 280 ∷ 20 ∷ 80 ∷ []) ≡ some (head 0 (pcons wild (pcons (range 20 80) pnil)))
  pub read_not_range : read_pattern L (0 ∷ 258 ∷ 260 ∷ 280 ∷ 20 ∷ 80 ∷ []) ≡ some (head 0 (pcons wild (pcons (neg (range 20 80)) pnil)))
  pub range_short : read_pattern L (0 ∷ 258 ∷ 280 ∷ 5 ∷ []) ≡ none
  pub range_elsewhere : read_pattern L (0 ∷ 280 ∷ 20 ∷ 80 ∷ 258 ∷ []) ≡ none
  pub first_level : read_pattern L (0 ∷ 258 ∷ 1000 ∷ []) ≡ none
  pub last_level : read_pattern L (0 ∷ 258 ∷ 1100 ∷ []) ≡ none
  pub number_row : read_pattern L (0 ∷ 258 ∷ 3 ∷ []) ≡ none
  -- its ends are never read as words of a pattern: 280 258 258 is no 7, but 18, like a low above its high and a high above 100
  pub any_ends : read_pattern L (0 ∷ 258 ∷ 280 ∷ 258 ∷ 258 ∷ []) ≡ some (head 0 (pcons wild (pcons (range 258 258) pnil)))
  pub ends_258 : ranged (range 258 258) ≡ false
  pub ends_falling : ranged (neg (range 6 5)) ≡ false
  pub ends_101 : ranged (and absurd_pat (range 0 101)) ≡ false
  pub ends_all : ranged (range 0 100) ≡ true
  -- "both included", "binds nothing"
  pub at_low : (i : ℕ) → Fits (range 20 80) (con 1020 vnil) i []
  pub at_high : (i : ℕ) → Fits (range 20 80) (con 1080 vnil) i []
  pub below_low : (i : ℕ) → Fails (range 20 80) (con 1019 vnil) i []
  pub above_high : (i : ℕ) → Fails (range 20 80) (con 1081 vnil) i []
  pub range_binds : (v : Value) (i : ℕ) (σ : Binds) → Fits (range 20 80) v i σ → σ ≡ []
  -- "a range weighs 1/1", "linear both ways"
  pub range_weight : weight_plus (range 0 100) ≡ 1
  pub range_weight_minus : weight_minus (range 0 100) ≡ 1
  pub range_linear : linear_plus (range 20 80) ≡ true
  pub range_linear_minus : linear_minus (range 20 80) ≡ true
