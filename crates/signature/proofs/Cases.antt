-- The worked cases hold: antt computes them.
use mathlib.Core.Path.{refl}
use Rattle.signature.specs.Cases.{Cases}

pub cases : Cases
cases = record { signature_T = refl; heads_T = refl; booking_T = refl; part_T = refl; part_whole = refl; part_beyond = refl; part_cut_short = refl; part_unsigned = refl; left_over = refl; other_kind = refl; no_constructor = refl; count_0 = refl; no_kind = refl; no_value = refl; signature_L = refl; booking_L = refl; number_row = refl; level_elsewhere = refl; above_levels = refl; kind_0_levels = refl; number_and_other = refl; two_numbers = refl; six_arguments = refl }
