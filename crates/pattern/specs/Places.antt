-- 01, Tree: bindings as "16 places (65,535: unbound)".
use Rattle.std.specs.Prelude.{◌≡◌, List, [], ◌∷◌, Bool, ◌&&◌, true, false, ℕ, ◌+◌, ◌≤◌, ◌<◌, eqb, replicate, set, length, get_or}
use Rattle.signature.specs.Lists.{any}
use Rattle.pattern.specs.Limits.{variable_count, unbound_place}
use Rattle.pattern.specs.Match.{Binds}

-- no variable is bound
abbrev pub unbound : List ℕ
unbound = replicate variable_count unbound_place

-- the places with these bindings put in
abbrev pub bind_all : Binds → List ℕ → List ℕ
bind_all [] places = places
bind_all (b ∷ bs) places = bind_all bs (set places b.0 b.1)

-- x is bound at place j
abbrev pub binds : ℕ → ℕ → Binds → Bool
binds x j σ = any (λ b. eqb x b.0 && eqb j b.1) σ

-- the same variables at the same places
abbrev pub Same : Binds → Binds → Type 0
Same σ τ = (x j : ℕ) → binds x j σ ≡ binds x j τ

-- a test counted
abbrev pub tick : Bool → ℕ
tick true = 1
tick false = 0

-- how often x is bound
abbrev pub times : ℕ → Binds → ℕ
times x [] = 0
times x (b ∷ σ) = tick (eqb x b.0) + times x σ

-- no variable twice
abbrev pub Once : Binds → Type 0
Once σ = (x : ℕ) → times x σ ≤ 1

-- the 16 places that bindings give: a bound variable's place, 65,535 for one that is not bound
pub record PlacesOf (σ : Binds) (places : List ℕ) : Type 0 where
  pub sixteen : length places ≡ variable_count
  pub bound : (x j : ℕ) → x < variable_count → binds x j σ ≡ true → get_or places x 0 ≡ j
  pub free : (x : ℕ) → x < variable_count → ((j : ℕ) → binds x j σ ≡ false) → get_or places x 0 ≡ unbound_place
