-- The worked cases hold: antt computes them.
use mathlib.Core.Path.{refl}
use Rattle.text.specs.Cases.{Cases}

pub cases : Cases
cases = record { rule_7 = refl; rule_9 = refl; default = refl; no_rules = refl; shared = refl; number_0 = refl; unlawful_signature = refl; unlawful_booking = refl; entry_before_booking = refl; no_newline = refl; leading_zero = refl; two_spaces = refl; other_key = refl; too_large = refl; book_not_last = refl; no_book = refl; no_text = refl }
