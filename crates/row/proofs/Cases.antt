-- The worked cases hold: antt computes them.
use mathlib.Core.Path.{refl}
use Rattle.row.specs.Cases.{Cases}

pub cases : Cases
cases = record { covered = refl; not_covered = refl; only_named = refl; only_excluded = refl; dead_variable = refl; not_not_variable = refl; apart_7_9 = refl; shares_7 = refl; shares_not_9 = refl; or_twice = refl; unreached = refl; not_not = refl; not_variable = refl; and_twice = refl; or_unequal = refl; not_con = refl; not_con_not = refl; weight_64 = refl; weight_65 = refl; malformed = refl; heavy_and_unequal = refl; range_row = refl; not_range_row = refl; all_levels = refl; no_levels = refl; ranges_meet = refl; ranges_apart = refl; range_and_not = refl; or_ranges = refl; or_ranges_meet = refl; wrong_range = refl; wrong_and_twice = refl; wrong_and_left_over = refl }
