-- The bindings as they are put, one pair after the other.
use Rattle.std.specs.Prelude.{List, [], ◌∷◌, ◌++◌, Bool, cond, ℕ, eqb}
use Rattle.pattern.specs.Limits.{unbound_place}
use Rattle.text.specs.Print.{spaced, pairs_text}
use Rattle.printing.specs.Put.{in_decimal}

-- "space between pairs": where one stands before
abbrev pub space : Bool → List ℕ
space before = cond before (32 ∷ []) []

-- what a variable adds: nothing where it is unbound
unfoldable pub piece : Bool → ℕ → ℕ → List ℕ
piece before x p = cond (eqb p unbound_place) [] (space before ++ (in_decimal x ++ (58 ∷ in_decimal p)))

-- all pairs
unfoldable pub pairs_bytes : List ℕ → List ℕ
pairs_bytes places = spaced (pairs_text 0 places)
