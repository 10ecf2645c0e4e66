-- The worked cases hold.
use mathlib.Core.Path.{◌≡◌, refl}
use mathlib.Core.List.{[]}
use Prim.Native.Nat.{ℕ}
use Rattle.signature.specs.Value.{Value}
use Rattle.pattern.specs.Cases.{Cases}
use Rattle.pattern.specs.Match.{Binds, Fits, Fails, fits_var, fits_wild, fits_not, fits_left, fits_right, fits_range, fails_not, fails_range}
use Rattle.pattern.specs.Pattern.{neg, var, range}

no_failure : {v : Value} {i : ℕ} {σ : Binds} → Fails (var 0) v i σ → ⊥
no_failure f = elim f [ ]

never : (v : Value) (i : ℕ) (σ : Binds) → Fits (neg (var 0)) v i σ → ⊥
never v i σ (fits_not f) = no_failure f

nothing_bound : (v : Value) (i : ℕ) (σ : Binds) → Fits (range 20 80) v i σ → σ ≡ []
nothing_bound v i σ (fits_range e) = refl

pub cases : Cases
cases = record { not_not_binds = λ v i. fits_not (fails_not fits_var); not_variable = never; left_fits = λ v i. fits_left fits_var; right_fits = λ v i. fits_right fits_wild; read_7 = refl; read_9 = refl; variable_15 = refl; variable_16 = refl; no_word = refl; left_over = refl; cut_short = refl; other_kind = refl; outside = refl; long = refl; too_long = refl; and_twice = refl; or_unequal = refl; or_twice = refl; not_con = refl; not_con_not = refl; dead_twice = refl; weight_64 = refl; light_64 = refl; weight_65 = refl; heavy_65 = refl; hidden_weight = refl; hidden_heavy = refl; read_range = refl; read_not_range = refl; range_short = refl; range_elsewhere = refl; first_level = refl; last_level = refl; number_row = refl; any_ends = refl; ends_258 = refl; ends_falling = refl; ends_101 = refl; ends_all = refl; at_low = λ i. fits_range refl; at_high = λ i. fits_range refl; below_low = λ i. fails_range refl; above_high = λ i. fails_range refl; range_binds = nothing_bound; range_weight = refl; range_weight_minus = refl; range_linear = refl; range_linear_minus = refl }
