-- 01, Turned down: each refusal and its number; 02 gives 18 to 20.
use Rattle.std.specs.Prelude.{ℕ, Result}
use Rattle.std.specs.Prelude.{Ok, Err}
use Rattle.signature.specs.declared.refusals.Refusal.{Refusal}
use Rattle.signature.specs.declared.refusals.Refusal.TheVariants.{SignatureUnlawful, TooShort, Unsound, NumberOutside, Held, NotHeld, Malformed, NotLinear, TooHeavy, Ambiguous, Full, Shared, BookingUnlawful, TreeTooLarge, TreeBroken, PlaceOutside, FormatBroken, RangeWrong, LogBeyond, ChargesMalformed}

abbrev pub number_of : Refusal → ℕ
number_of SignatureUnlawful = 1
number_of TooShort = 2
number_of Unsound = 3
number_of NumberOutside = 4
number_of Held = 5
number_of NotHeld = 6
number_of Malformed = 7
number_of NotLinear = 8
number_of TooHeavy = 9
number_of Ambiguous = 10
number_of Full = 11
number_of Shared = 12
number_of BookingUnlawful = 13
number_of TreeTooLarge = 14
number_of TreeBroken = 15
number_of PlaceOutside = 16
number_of FormatBroken = 17
number_of RangeWrong = 18
number_of LogBeyond = 19
number_of ChargesMalformed = 20

-- the number of an answer, 0 where nothing is refused
abbrev pub number_in : {A : Type 0} → Result A Refusal → ℕ
number_in (Ok x) = 0
number_in (Err r) = number_of r

-- the answer with its number in place of the refusal
abbrev pub numbered : {A : Type 0} → Result A Refusal → Result A ℕ
numbered (Ok x) = Ok x
numbered (Err r) = Err (number_of r)
