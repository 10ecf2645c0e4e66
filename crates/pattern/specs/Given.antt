-- What the checks of a pattern are given.
use Rattle.std.specs.Prelude.{◌≡◌, List, ◌++◌, ℕ}
use Rattle.std.proofs.Math.Option.{some}
use Rattle.signature.specs.Decoded.{Known}
use Rattle.pattern.specs.Pattern.{Pattern, pattern_code}
use Rattle.pattern.specs.Read.{read_pattern}
use Rattle.pattern.specs.WellFormed.{WellFormed}

-- the words are a pattern, past refusal 7, under the signature whose table is t
pub record Patterned (t ws : List ℕ) : Type 0 where
  pub known : Known t
  pub pattern : Pattern
  pub read : read_pattern known.sig ws ≡ some pattern

-- the words begin with a pattern of some kind
pub record Opens (t ws : List ℕ) : Type 0 where
  pub known : Known t
  pub kind : ℕ
  pub pattern : Pattern
  pub well : WellFormed known.sig kind pattern
  pub rest : List ℕ
  pub words : ws ≡ pattern_code pattern ++ rest
