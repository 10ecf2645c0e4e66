-- The worked cases hold: antt computes them.
use mathlib.Core.Path.{refl}
use Rattle.stepping.specs.Cases.{Cases}

pub cases : Cases
cases = record { open_0 = refl; open_1 = refl; open_5 = refl; no_words = refl; cut_short = refl; whole = refl; left_over = refl; wrong_at = refl; wrong = refl; level = refl; number_row = refl; unlawful = refl; other_signature = refl; never_begun = refl }
