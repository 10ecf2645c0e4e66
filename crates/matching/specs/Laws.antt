-- The laws of the matcher's answers. The function `laws` promises them.
use Rattle.std.specs.Prelude.{◌↔◌, ◌≡◌, Bool, true, false, List, ℕ}
use Rattle.pattern.specs.Ambiguous.{Ambiguous}
use Rattle.pattern.specs.Decide.{fit, decide, is_fit}
use Rattle.pattern.specs.Linear.{linear_plus}
use Rattle.pattern.specs.Match.{Binds, Fits, Fails}
use Rattle.pattern.specs.Places.{PlacesOf, bind_all, unbound}
use Rattle.matching.specs.Asked.{Asked}

-- r is the answer of `takes`
abbrev pub Answer : (t ws bs : List ℕ) → Bool → Type 0
Answer t ws bs r = (g : Asked t ws bs) → r ≡ is_fit (decide g.pattern g.value 0)

-- ps is the answer of `places`
abbrev pub Places : (t ws bs ps : List ℕ) → Type 0
Places t ws bs ps = (g : Asked t ws bs) (σ : Binds) → decide g.pattern g.value 0 ≡ fit σ → ps ≡ bind_all σ unbound

pub record Laws : Type 0 where
  -- "A rule takes a booking when its pattern fits it", and does not when its pattern fails on it
  pub yes : (t ws bs : List ℕ) (r : Bool) → Answer t ws bs r → (g : Asked t ws bs) → ((r ≡ true) ↔ ((σ : Binds) × Fits g.pattern g.value 0 σ))
  pub no : (t ws bs : List ℕ) (r : Bool) → Answer t ws bs r → (g : Asked t ws bs) → ((r ≡ false) ↔ ((σ : Binds) × Fails g.pattern g.value 0 σ))
  -- past refusals 8 and 10 every way to fit gives the same places
  pub places : (t ws bs ps : List ℕ) → Places t ws bs ps → (g : Asked t ws bs) → linear_plus g.pattern ≡ true → (Ambiguous g.known.sig 0 g.pattern → ⊥) → (σ : Binds) → Fits g.pattern g.value 0 σ → (ps ≡ bind_all σ unbound) × PlacesOf σ ps
