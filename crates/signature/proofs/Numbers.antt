-- A refusal's number is not 0.
use Prim.Native.Nat.{◌≤◌}
use mathlib.Core.Path.{◌≡◌}
use native.Mathlib.Omega.{arith}
use Rattle.signature.specs.Refusal.{number_of}
use Rattle.signature.specs.declared.refusals.Refusal.{Refusal}
use Rattle.signature.specs.declared.refusals.Refusal.TheVariants.{SignatureUnlawful, TooShort, Unsound, NumberOutside, Held, NotHeld, Malformed, NotLinear, TooHeavy, Ambiguous, Full, Shared, BookingUnlawful, TreeTooLarge, TreeBroken, PlaceOutside, FormatBroken, RangeWrong, LogBeyond, ChargesMalformed}

pub positive : (r : Refusal) → 1 ≤ number_of r
positive SignatureUnlawful = omega arith
positive TooShort = omega arith
positive Unsound = omega arith
positive NumberOutside = omega arith
positive Held = omega arith
positive NotHeld = omega arith
positive Malformed = omega arith
positive NotLinear = omega arith
positive TooHeavy = omega arith
positive Ambiguous = omega arith
positive Full = omega arith
positive Shared = omega arith
positive BookingUnlawful = omega arith
positive TreeTooLarge = omega arith
positive TreeBroken = omega arith
positive PlaceOutside = omega arith
positive FormatBroken = omega arith
positive RangeWrong = omega arith
positive LogBeyond = omega arith
positive ChargesMalformed = omega arith

pub not_0 : (r : Refusal) → number_of r ≡ 0 → ⊥
not_0 r e = omega (arith, positive r, e)
