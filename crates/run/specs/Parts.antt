-- What a run knows of the booking.
use Rattle.std.specs.Prelude.{◌≡◌, List, ℕ}
use Rattle.std.proofs.Math.Option.{some}
use Rattle.signature.specs.Decoded.{Known}
use Rattle.signature.specs.Read.{read_booking}
use Rattle.signature.specs.Value.{Value}

-- b is a lawful booking of the signature whose table is t
pub record Booked (t b : List ℕ) : Type 0 where
  pub known : Known t
  pub value : Value
  pub read : read_booking known.sig b ≡ some value

-- a booking of at most so many words is answered with a smaller array of visits
abbrev pub short_booking : ℕ
short_booking = 64
