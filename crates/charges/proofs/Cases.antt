-- The worked cases hold: antt computes them.
use mathlib.Core.Path.{refl}
use Rattle.charges.specs.Cases.{Cases}
use Rattle.charges.specs.Charge.{read_charges}

pub cases : Cases
unfolding read_charges
cases = record { answered_again = refl; any_words = refl; no_charges = refl; left_as_it_was = refl; first_15 = refl; first_13 = refl; first_1 = refl; first_20 = refl; words_63 = refl; words_65 = refl; length_0 = refl; length_61 = refl; length_62 = refl; word_behind = refl; word_next = refl; charges_48 = refl; charges_49 = refl }
