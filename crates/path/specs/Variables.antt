-- The variables of a place, as a set.
use Rattle.std.specs.Prelude.{◌≡◌, List, [], ◌∷◌, false, cond, ℕ, zero, suc, ◌<◌, eqb}
use Rattle.signature.specs.Lists.{memb}
use Rattle.sets.specs.Set.{bit}
use Rattle.pattern.specs.Limits.{variable_count}

-- the members of a set from i on, n numbers looked at, rising
abbrev pub variables_from : ℕ → ℕ → ℕ → List ℕ
variables_from m i zero = []
variables_from m i (suc n) = cond (eqb (bit m i) 1) (i ∷ variables_from m (suc i) n) (variables_from m (suc i) n)

unfoldable pub variables : ℕ → List ℕ
variables m = variables_from m 0 variable_count

-- no variable twice, none above 15
abbrev pub Once : List ℕ → Type 0
Once [] = Unit {0}
Once (x ∷ xs) = (x < variable_count) × (memb x xs ≡ false) × Once xs
