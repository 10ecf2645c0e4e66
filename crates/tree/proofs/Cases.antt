-- The worked cases hold: antt computes them.
use mathlib.Core.Path.{refl}
use Rattle.tree.specs.Cases.{Cases}

pub cases : Cases
cases = record { runs_7 = refl; runs_9 = refl; runs_default = refl; nodes_7 = refl; unlawful_signature = refl; unlawful_booking = refl; no_node = refl; default_early = refl; default_last = refl; default_cut = refl; hit_left = refl; skip_one = refl; skip_two = refl; other_word = refl; rule_0 = refl; rule_1000 = refl; visit_made = refl; visit_not_made = refl; variable_16 = refl; not_rising = refl; wrong_kind = refl; wrong_count = refl; link_not_above = refl; link_above = refl; level_50 = refl; level_51 = refl; level_0 = refl; level_100 = refl; nodes_51 = refl; one_end = refl; no_end = refl; split_at_constructor = refl; test_at_level = refl; test_of_levels = refl; ends_not_rising = refl; ends_falling = refl; ends_below_100 = refl; ends_above_100 = refl; ends_outside = refl; split_not_above = refl; link_inside = refl; link_outside = refl; no_lines = refl; range_and_rest = refl; range_and_all = refl; all_alone = refl; split_words = refl }
