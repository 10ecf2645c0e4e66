-- The laws of the matcher's answers hold.
use mathlib.Core.Path.{◌≡◌, refl, sym, ◌∙◌, subst}
use mathlib.Core.Bool.{Bool, true, false}
use mathlib.Core.List.{List}
use Prim.Native.Nat.{ℕ}
use Rattle.pattern.specs.Ambiguous.{Ambiguous}
use Rattle.pattern.specs.Decide.{Out, fit, fail, decide}
use Rattle.pattern.specs.Linear.{linear_plus}
use Rattle.pattern.specs.Match.{Binds, Fits, Fails}
use Rattle.pattern.specs.Places.{PlacesOf, bind_all, unbound}
use Rattle.pattern.proofs.Decided.{Says, says_fits, says_fails, decide_says, decide_fits, decide_fails, fits_decide, fails_decide}
use Rattle.pattern.proofs.Exclusive.{exclusive}
use Rattle.pattern.proofs.Once.{once_fits, places_of, same_places}
use Rattle.pattern.proofs.Unique.{same_fits}
use Rattle.matching.specs.Asked.{Asked}
use Rattle.matching.specs.Laws.{Laws, Answer, Places}
use Rattle.matching.proofs.GivenSteps.{given_whole}

module _ {t ws bs : List ℕ} (g : Asked t ws bs) where
  yes : (r : Bool) → Answer t ws bs r → (r ≡ true → (σ : Binds) × Fits g.pattern g.value 0 σ) × (((σ : Binds) × Fits g.pattern g.value 0 σ) → r ≡ true)
  yes r h =
      let w = given_whole g in
      (λ e. decide_fits g.known.sig g.pattern 0 w.well w.kinded (sym (h g) ∙ e), λ f. h g ∙ fits_decide g.known.sig g.pattern w.well w.kinded f.1)

  no : (r : Bool) → Answer t ws bs r → (r ≡ false → (σ : Binds) × Fails g.pattern g.value 0 σ) × (((σ : Binds) × Fails g.pattern g.value 0 σ) → r ≡ false)
  no r h =
      let w = given_whole g in
      (λ e. decide_fails g.known.sig g.pattern 0 w.well w.kinded (sym (h g) ∙ e), λ f. h g ∙ fails_decide g.known.sig g.pattern w.well w.kinded f.1)

  -- the decision is a fit that holds
  fit_is : {τ : Binds} → Fits g.pattern g.value 0 τ → (σ : Binds) × (decide g.pattern g.value 0 ≡ fit σ) × Fits g.pattern g.value 0 σ
  fit_is {τ} f = go (decide g.pattern g.value 0) refl (decide_says g.known.sig g.pattern (given_whole g).well g.value (given_whole g).kinded 0)
    where
      go : (o : Out) → decide g.pattern g.value 0 ≡ o → Says g.pattern g.value 0 o → (σ : Binds) × (decide g.pattern g.value 0 ≡ fit σ) × Fits g.pattern g.value 0 σ
      go (fit σ) e (says_fits h) = (σ, e, h)
      go (fail σ) e (says_fails h) = absurd (exclusive g.pattern f h)

  all_same : (ps : List ℕ) → Places t ws bs ps → linear_plus g.pattern ≡ true → (Ambiguous g.known.sig 0 g.pattern → ⊥) → (σ : Binds) → Fits g.pattern g.value 0 σ → (ps ≡ bind_all σ unbound) × PlacesOf σ ps
  all_same ps h l n σ f =
      let (τ, e, k) = fit_is f in
      let one : bind_all τ unbound ≡ bind_all σ unbound = same_places τ σ unbound (once_fits g.pattern l k) (once_fits g.pattern l f) (same_fits g.known.sig g.pattern l n (given_whole g).kinded k f) in
      let are = h g τ e ∙ one in
      (are, subst (λ (xs : List ℕ). PlacesOf σ xs) (sym are) (places_of σ (once_fits g.pattern l f)))

pub laws : Laws
laws = record {
  yes = λ t ws bs r h g. yes g r h;
  no = λ t ws bs r h g. no g r h;
  places = λ t ws bs ps h g l n σ f. all_same g ps h l n σ f;
}
