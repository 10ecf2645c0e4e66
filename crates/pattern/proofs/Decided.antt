-- The decision says which of Fits and Fails holds.
use mathlib.Core.Path.{◌≡◌, refl, sym, subst, ◌∙◌}
use mathlib.Core.List.{List, []}
use mathlib.Core.Bool.{Bool, true, false, ◌&&◌, not, ◌||◌, cond}
use Prim.Native.Nat.{ℕ, ◌+◌, suc}
use lib.Dec.{eqb}
use Rattle.signature.specs.Lawful.{OfKind, of_kind, OfKinds, of_kinds_nil, of_kinds_cons}
use Rattle.signature.specs.Read.{Signed}
use Rattle.signature.specs.Signature.{Signature}
use Rattle.signature.specs.Value.{Value, Values, size, vcons, con, vnil}
use Rattle.signature.proofs.Heads.{same_args}
use Rattle.signature.proofs.Tests.{eqb_eq, eqb_ne, true≢false, some_inj}
use Rattle.pattern.specs.Decide.{Out, fit, fail, swap, both, decide, decides, is_fit}
use Rattle.pattern.specs.Match.{Binds, Fits, Fails, AllFit, SomeFails, fails_not, fits_not, fits_and, fails_right, fails_left, fails_or, fits_right, fits_left, all_cons, some_there, some_here, fits_con, fails_arg, fits_var, fits_wild, fits_range, fails_absurd, fails_head, fails_range, all_nil}
use Rattle.pattern.specs.Pattern.{Pattern, Patterns, neg, and, or, pcons, head, var, wild, absurd_pat, range, pnil}
use Rattle.pattern.specs.Range.{within}
use Rattle.pattern.specs.Takes.{Takes, TakesNot}
use Rattle.pattern.specs.WellFormed.{WellFormed, well_not, well_and, well_or, well_head, AllWellFormed, well_nil, well_cons}
use Rattle.pattern.proofs.Exclusive.{exclusive}

-- what an outcome says
pub data Says (p : Pattern) (v : Value) (i : ℕ) : Out → Type 0 where
  says_fits : {σ : Binds} → Fits p v i σ → Says p v i (fit σ)
  says_fails : {σ : Binds} → Fails p v i σ → Says p v i (fail σ)

pub data SaysAll (ps : Patterns) (vs : Values) (i : ℕ) : Out → Type 0 where
  says_all : {σ : Binds} → AllFit ps vs i σ → SaysAll ps vs i (fit σ)
  says_some : {σ : Binds} → SomeFails ps vs i σ → SaysAll ps vs i (fail σ)

says_neg : {p : Pattern} {v : Value} {i : ℕ} {o : Out} → Says p v i o → Says (neg p) v i (swap o)
says_neg (says_fits h) = says_fails (fails_not h)
says_neg (says_fails h) = says_fits (fits_not h)

says_and : {p q : Pattern} {v : Value} {i : ℕ} {o u : Out} → Says p v i o → Says q v i u → Says (and p q) v i (both o u)
says_and (says_fits h) (says_fits g) = says_fits (fits_and h g)
says_and (says_fits h) (says_fails g) = says_fails (fails_right g)
says_and (says_fails h) g = says_fails (fails_left h)

says_or : {p q : Pattern} {v : Value} {i : ℕ} {o u : Out} → Says p v i o → Says q v i u → Says (or p q) v i (swap (both (swap o) (swap u)))
says_or (says_fails h) (says_fails g) = says_fails (fails_or h g)
says_or (says_fails h) (says_fits g) = says_fits (fits_right g)
says_or (says_fits h) g = says_fits (fits_left h)

says_cons : {p : Pattern} {ps : Patterns} {v : Value} {vs : Values} {i : ℕ} {o u : Out} → Says p v i o → SaysAll ps vs (i + size v) u → SaysAll (pcons p ps) (vcons v vs) i (both o u)
says_cons (says_fits h) (says_all g) = says_all (all_cons h g)
says_cons (says_fits h) (says_some g) = says_some (some_there g)
says_cons (says_fails h) g = says_some (some_here h)

says_head : {c d i : ℕ} {ps : Patterns} {vs : Values} {o : Out} → c ≡ d → SaysAll ps vs (suc i) o → Says (head c ps) (con d vs) i o
says_head e (says_all h) = says_fits (fits_con e h)
says_head e (says_some h) = says_fails (fails_arg e h)

module _ (sig : Signature) where
  mutual
    pub decide_says : {k : ℕ} (p : Pattern) → WellFormed sig k p → (v : Value) → OfKind sig k v → (i : ℕ) → Says p v i (decide p v i)
    decide_says (var x) s v h i = says_fits fits_var
    decide_says wild s v h i = says_fits fits_wild
    decide_says absurd_pat s v h i = says_fails fails_absurd
    decide_says (neg p) (well_not s) v h i = says_neg (decide_says p s v h i)
    decide_says (and p q) (well_and s t) v h i = says_and (decide_says p s v h i) (decide_says q t v h i)
    decide_says (or p q) (well_or s t) v h i = says_or (decide_says p s v h i) (decide_says q t v h i)
    decide_says {k} (head c ps) (well_head {ks = ks} l e s) (con d vs) (of_kind {ks = js} e' h) i = go (eqb c d) refl (λ t. decides_says ps s vs t (suc i))
      where
        go : (b : Bool) → eqb c d ≡ b → (OfKinds sig ks vs → SaysAll ps vs (suc i) (decides ps vs (suc i))) → Says (head c ps) (con d vs) i (decide (head c ps) (con d vs) i)
        go true q f = rw q (says_head (eqb_eq c d q) (f (rw (same_args sig k c d e e' (eqb_eq c d q)) at h)))
        go false q f = rw q (says_fails (fails_head (eqb_ne c d q)))
    decide_says (range low high) s (con d vs) h i = go (within low high d) refl
      where
        go : (b : Bool) → within low high d ≡ b → Says (range low high) (con d vs) i (cond b (fit []) (fail []))
        go true q = says_fits (fits_range q)
        go false q = says_fails (fails_range q)

    pub decides_says : {ks : List ℕ} (ps : Patterns) → AllWellFormed sig ks ps → (vs : Values) → OfKinds sig ks vs → (i : ℕ) → SaysAll ps vs i (decides ps vs i)
    decides_says pnil well_nil (vcons v vs) bad i = elim bad [ ]
    decides_says (pcons p ps) (well_cons s t) vnil bad i = elim bad [ ]
    decides_says pnil well_nil vnil of_kinds_nil i = says_all all_nil
    decides_says (pcons p ps) (well_cons s t) (vcons v vs) (of_kinds_cons h g) i = says_cons (decide_says p s v h i) (decides_says ps t vs g (i + size v))

pub fit_both : (o u : Out) → is_fit (both o u) ≡ (is_fit o && is_fit u)
fit_both (fit σ) (fit τ) = refl
fit_both (fit σ) (fail τ) = refl
fit_both (fail σ) u = refl

pub fit_swap : (o : Out) → is_fit (swap o) ≡ not (is_fit o)
fit_swap (fit σ) = refl
fit_swap (fail σ) = refl

pub fit_when : (b : Bool) → is_fit (cond b (fit []) (fail [])) ≡ b
fit_when true = refl
fit_when false = refl

pub fit_back : (o : Out) → is_fit o ≡ not (is_fit (swap o))
fit_back (fit σ) = refl
fit_back (fail σ) = refl

pub not_both : (o u : Out) → (not (is_fit o) || not (is_fit u)) ≡ not (is_fit (both o u))
not_both (fit σ) (fit τ) = refl
not_both (fit σ) (fail τ) = refl
not_both (fail σ) u = refl

pub not_either : (o u : Out) → (not (is_fit o) && not (is_fit u)) ≡ not (is_fit (swap (both (swap o) (swap u))))
not_either (fit σ) u = refl
not_either (fail σ) (fit τ) = refl
not_either (fail σ) (fail τ) = refl

pub fit_or : (o u : Out) → is_fit (swap (both (swap o) (swap u))) ≡ (is_fit o || is_fit u)
fit_or (fit σ) u = refl
fit_or (fail σ) (fit τ) = refl
fit_or (fail σ) (fail τ) = refl

-- outcomes and the relation
pub out_fits : {p : Pattern} {v : Value} {i : ℕ} (o : Out) → Says p v i o → is_fit o ≡ true → (σ : Binds) × Fits p v i σ
out_fits (fit σ) (says_fits h) e = (σ, h)
out_fits (fail σ) s e = true≢false (sym e)

pub out_fails : {p : Pattern} {v : Value} {i : ℕ} (o : Out) → Says p v i o → is_fit o ≡ false → (σ : Binds) × Fails p v i σ
out_fails (fail σ) (says_fails h) e = (σ, h)
out_fails (fit σ) s e = true≢false e

pub fits_out : {v : Value} {i : ℕ} (p : Pattern) (o : Out) {σ : Binds} → Says p v i o → Fits p v i σ → is_fit o ≡ true
fits_out p (fit τ) s h = refl
fits_out p (fail τ) (says_fails g) h = absurd (exclusive p h g)

pub fails_out : {v : Value} {i : ℕ} (p : Pattern) (o : Out) {σ : Binds} → Says p v i o → Fails p v i σ → is_fit o ≡ false
fails_out p (fail τ) s h = refl
fails_out p (fit τ) (says_fits g) h = absurd (exclusive p g h)

module _ (sig : Signature) where
  pub fits_decide : {k i : ℕ} (p : Pattern) {v : Value} {σ : Binds} → WellFormed sig k p → OfKind sig k v → Fits p v i σ → is_fit (decide p v i) ≡ true
  fits_decide {k} {i} p {v} s h f = fits_out p (decide p v i) (decide_says sig p s v h i) f

  pub fails_decide : {k i : ℕ} (p : Pattern) {v : Value} {σ : Binds} → WellFormed sig k p → OfKind sig k v → Fails p v i σ → is_fit (decide p v i) ≡ false
  fails_decide {k} {i} p {v} s h f = fails_out p (decide p v i) (decide_says sig p s v h i) f

  pub decide_fits : {k : ℕ} (p : Pattern) {v : Value} (i : ℕ) → WellFormed sig k p → OfKind sig k v → is_fit (decide p v i) ≡ true → (σ : Binds) × Fits p v i σ
  decide_fits p {v} i s h e = out_fits (decide p v i) (decide_says sig p s v h i) e

  pub decide_fails : {k : ℕ} (p : Pattern) {v : Value} (i : ℕ) → WellFormed sig k p → OfKind sig k v → is_fit (decide p v i) ≡ false → (σ : Binds) × Fails p v i σ
  decide_fails p {v} i s h e = out_fails (decide p v i) (decide_says sig p s v h i) e

module _ (sig : Signature) where
  -- rules of which no two share a booking: one at most takes it
  module _ (signed : Signed sig) where
    pub not_takes : (ws bs : List ℕ) {σ τ : Binds} → Takes sig ws bs σ → TakesNot sig ws bs τ → ⊥
    not_takes ws bs {σ} {τ} (p, v, e, b, f) (q, w, e', b', g) = exclusive p f (subst (λ x. Fails x v 0 τ) (some_inj q p (sym e' ∙ e)) (subst (λ x. Fails q x 0 τ) (some_inj w v (sym b' ∙ b)) g))
