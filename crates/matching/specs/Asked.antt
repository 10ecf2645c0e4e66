-- What the matcher is asked: a pattern past refusal 7 and a lawful booking, under one signature.
use Rattle.std.specs.Prelude.{◌≡◌, List, ℕ}
use Rattle.std.proofs.Math.Option.{some}
use Rattle.signature.specs.Decoded.{Known}
use Rattle.signature.specs.Read.{read_booking}
use Rattle.signature.specs.Value.{Value}
use Rattle.pattern.specs.Pattern.{Pattern}
use Rattle.pattern.specs.Read.{read_pattern}

-- t is the table of the signature
pub record Asked (t ws bs : List ℕ) : Type 0 where
  pub known : Known t
  pub pattern : Pattern
  pub read : read_pattern known.sig ws ≡ some pattern
  pub value : Value
  pub booked : read_booking known.sig bs ≡ some value
