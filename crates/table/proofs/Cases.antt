-- The worked cases hold: antt computes them.
use mathlib.Core.Path.{◌≡◌, refl}
use mathlib.Core.List.{◌∷◌, []}
use Rattle.signature.specs.Cases.{T, L}
use Rattle.tree.specs.Cases.{tree_T}
use Rattle.table.specs.Cases.{Cases, rules_T, rules_L}
use Rattle.table.specs.Limits.{emptied_default}
use Rattle.table.specs.Matrix.{tree, tree_words}

tree_is : tree_words emptied_default T rules_T ≡ tree_T
unfolding tree_words tree
tree_is = refl

levels_are : tree_words emptied_default L rules_L ≡ 2 ∷ 0 ∷ 1 ∷ 4 ∷ 2 ∷ 1 ∷ 2 ∷ 9 ∷ 23 ∷ 4 ∷ 2 ∷ 50 ∷ 100 ∷ 15 ∷ 19 ∷ 1 ∷ 7 ∷ 40 ∷ 0 ∷ 1 ∷ 9 ∷ 41 ∷ 0 ∷ 4 ∷ 2 ∷ 50 ∷ 100 ∷ 29 ∷ 33 ∷ 1 ∷ 7 ∷ 40 ∷ 0 ∷ 0 ∷ 1 ∷ []
unfolding tree_words tree
levels_are = refl

empty_is : tree_words 5 T [] ≡ 0 ∷ 5 ∷ []
unfolding tree_words tree
empty_is = refl

pub cases : Cases
cases = record { signature_T = refl; tree = tree_is; tree_length = refl; runs_7 = refl; runs_9 = refl; runs_default = refl; decides_7 = refl; decides_9 = refl; decides_default = refl; refused_12 = refl; shares_7 = refl; not_not_admitted = refl; not_not = λ v. refl; not_variable_admitted = refl; not_variable = λ v. refl; or_twice = refl; and_twice = refl; or_unequal = refl; not_con = refl; not_con_not = refl; weight_64 = refl; admitted_64 = refl; weight_65 = refl; refused_65 = refl; numbers = refl; left = refl; words = refl; holds = refl; kept_default = refl; set_twice = refl; set_numbers = refl; set_rules = refl; zeros_sound = refl; zeros_default = refl; empty_tree = empty_is; number_0 = refl; number_1000 = refl; held_malformed = refl; free_malformed = refl; tree_of_levels = levels_are; range_shared = refl; range_apart = refl; range_falls = refl; range_high = refl; range_of_words = refl; range_then_malformed = refl; range_then_twice = refl; range_elsewhere = refl }
