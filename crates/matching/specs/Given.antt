-- What each step of the matcher is given: words that begin with patterns, and words that begin with the values they are held against.
use Rattle.std.specs.Prelude.{◌≡◌, List, ◌++◌, ℕ, length}
use Rattle.signature.specs.Decoded.{Known}
use Rattle.signature.specs.Lawful.{OfKind, OfKinds}
use Rattle.signature.specs.Value.{Value, Values, code, codes}
use Rattle.pattern.specs.Pattern.{Pattern, Patterns, pattern_code, patterns_code}
use Rattle.pattern.specs.WellFormed.{WellFormed, AllWellFormed}

-- a pattern and a value of its kind
pub record Given (t ws bs : List ℕ) : Type 0 where
  pub known : Known t
  pub kind : ℕ
  pub pattern : Pattern
  pub value : Value
  pub well : WellFormed known.sig kind pattern
  pub kinded : OfKind known.sig kind value
  pub pattern_rest : List ℕ
  pub value_rest : List ℕ
  pub pattern_words : ws ≡ pattern_code pattern ++ pattern_rest
  pub value_words : bs ≡ code value ++ value_rest

-- two patterns and one value
pub record GivenTwo (t ws bs : List ℕ) : Type 0 where
  pub known : Known t
  pub kind : ℕ
  pub first : Pattern
  pub second : Pattern
  pub value : Value
  pub well_first : WellFormed known.sig kind first
  pub well_second : WellFormed known.sig kind second
  pub kinded : OfKind known.sig kind value
  pub pattern_rest : List ℕ
  pub value_rest : List ℕ
  pub pattern_words : ws ≡ pattern_code first ++ (pattern_code second ++ pattern_rest)
  pub value_words : bs ≡ code value ++ value_rest

-- n patterns, each with a value of its kind
pub record GivenAll (t ws bs : List ℕ) (n : ℕ) : Type 0 where
  pub known : Known t
  pub kinds : List ℕ
  pub patterns : Patterns
  pub values : Values
  pub well : AllWellFormed known.sig kinds patterns
  pub kinded : OfKinds known.sig kinds values
  pub pattern_rest : List ℕ
  pub value_rest : List ℕ
  pub pattern_words : ws ≡ patterns_code patterns ++ pattern_rest
  pub value_words : bs ≡ codes values ++ value_rest
  pub many : length kinds ≡ n
