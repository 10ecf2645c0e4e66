-- The refusals 7, 18 and 8 to 10 against the patterns that pass them.
use mathlib.Core.Path.{◌≡◌, refl, sym, ◌∙◌, subst, ap}
use mathlib.Core.List.{List}
use mathlib.Core.Option.{Option, none, some}
use mathlib.Core.Bool.{Bool, true, false, not}
use Prim.Native.Nat.{ℕ, ◌≤◌}
use native.Mathlib.Omega.{arith}
use lib.Dec.{leb, leb→le}
use lib.ListN.{length}
use Rattle.signature.specs.Lawful.{OfKind}
use Rattle.signature.specs.Read.{read_booking, Signed}
use Rattle.signature.specs.Signature.{Signature}
use Rattle.signature.specs.Value.{Value}
use Rattle.signature.proofs.Booleans.{not_false}
use Rattle.signature.proofs.LawfulFacts.{sig_facts, small_0}
use Rattle.signature.proofs.Tests.{T_of, pass, true≢false, some_inj}
use Rattle.signature.proofs.Values.{booking_lawful}
use Rattle.pattern.specs.Limits.{pattern_limit}
use Rattle.pattern.specs.Linear.{linear_plus}
use Rattle.pattern.specs.Match.{Binds, Fits, Fails}
use Rattle.pattern.specs.Pattern.{Pattern}
use Rattle.pattern.specs.Places.{Same, bind_all, unbound}
use Rattle.pattern.specs.Ranged.{ranged}
use Rattle.pattern.specs.Read.{read_pattern}
use Rattle.pattern.specs.Takes.{Takes, TakesNot}
use Rattle.pattern.specs.Weight.{light_plus}
use Rattle.pattern.proofs.Once.{same_places, once_fits}
use Rattle.pattern.proofs.PatternBack.{pattern_words}
use Rattle.pattern.proofs.Unique.{same_fits}
use Rattle.row.specs.Admitted.{refusal_of_pattern, Passed, refusal_by}
use Rattle.row.specs.Overlap.{ambiguous_plus, shares}
use Rattle.row.proofs.Exists.{ambiguous_decided, ambiguous_exists, exists_shares}

module _ (sig : Signature) where
  -- a call's pattern is short where it is read
  pub short_of : (p : List ℕ) → refusal_of_pattern sig p ≡ 0 → length p ≤ pattern_limit
  short_of p e = go (leb (length p) pattern_limit) refl
    where
      go : (b : Bool) → leb (length p) pattern_limit ≡ b → length p ≤ pattern_limit
      go true q = leb→le (length p) pattern_limit (T_of (leb (length p) pattern_limit) q)
      go false q = absurd (let z : ◌≡◌ {A = ℕ} 7 0 = rw q at e in omega arith)

module _ (sig : Signature) where
  pub passed_of : (ws : List ℕ) → refusal_of_pattern sig ws ≡ 0 → Passed sig ws
  passed_of ws e = go (read_pattern sig ws) refl e
    where
      go : (o : Option Pattern) → read_pattern sig ws ≡ o → refusal_by sig o ≡ 0 → Passed sig ws
      go none q h = absurd (let z : ◌≡◌ {A = ℕ} 7 0 = h in omega arith)
      go (some p) q h =
          let (r, e₀) = pass (not (ranged p)) 18 _ (λ z. omega arith) h in
          let (a, e₁) = pass (not (linear_plus p)) 8 _ (λ z. omega arith) e₀ in
          let (b, e₂) = pass (not (light_plus p)) 9 _ (λ z. omega arith) e₁ in
          let (c, e₃) = pass (ambiguous_plus sig 0 p) 10 0 (λ z. omega arith) e₂ in
          record { pat = p; read = q; ranges = not_false (ranged p) r; linear = not_false (linear_plus p) a; light = not_false (light_plus p) b; plain = λ a'. true≢false (sym (ambiguous_decided sig p (pattern_words sig ws p q).well_formed a') ∙ c) }

  pub of_passed : Signed sig → (ws : List ℕ) → Passed sig ws → refusal_of_pattern sig ws ≡ 0
  of_passed signed ws h = rw (h.read, h.ranges, h.linear, h.light, plain (ambiguous_plus sig 0 h.pat) refl)
    where
      plain : (b : Bool) → ambiguous_plus sig 0 h.pat ≡ b → ambiguous_plus sig 0 h.pat ≡ false
      plain true e =
          let f = sig_facts sig signed in
          absurd (h.plain (ambiguous_exists sig f h.pat (small_0 sig f) (pattern_words sig ws h.pat h.read).well_formed e))
      plain false e = e

  -- all fits of a pattern that passes bind the same places
  one_way : (ws : List ℕ) → (h : Passed sig ws) → {v : Value} {σ τ : Binds} → OfKind sig 0 v → Fits h.pat v 0 σ → Fits h.pat v 0 τ → Same σ τ
  one_way ws h k f g = same_fits sig h.pat h.linear h.plain k f g

  -- the pattern and the value of a taking
  pub takes_fits : (ws bs : List ℕ) (h : Passed sig ws) (v : Value) {σ : Binds} → read_booking sig bs ≡ some v → Takes sig ws bs σ → Fits h.pat v 0 σ
  takes_fits ws bs h v {σ} b (p, w, e, c, f) = subst (λ x. Fits x v 0 σ) (some_inj p h.pat (sym e ∙ h.read)) (subst (λ x. Fits p x 0 σ) (some_inj w v (sym c ∙ b)) f)

  pub takes_fails : (ws bs : List ℕ) (h : Passed sig ws) (v : Value) {σ : Binds} → read_booking sig bs ≡ some v → TakesNot sig ws bs σ → Fails h.pat v 0 σ
  takes_fails ws bs h v {σ} b (p, w, e, c, f) = subst (λ x. Fails x v 0 σ) (some_inj p h.pat (sym e ∙ h.read)) (subst (λ x. Fails p x 0 σ) (some_inj w v (sym c ∙ b)) f)

  pub one_list_of : (ws bs : List ℕ) (h : Passed sig ws) (v : Value) {σ τ : Binds} → read_booking sig bs ≡ some v → Fits h.pat v 0 σ → Fits h.pat v 0 τ → bind_all σ unbound ≡ bind_all τ unbound
  one_list_of ws bs h v {σ} {τ} b f g = same_places σ τ unbound (once_fits h.pat h.linear f) (once_fits h.pat h.linear g) (one_way ws h (booking_lawful sig bs v b).kind_0 f g)

module _ (sig : Signature) where
  -- rules of which no two share a booking: one at most takes it
  module _ (signed : Signed sig) where
    pub clash : (us ws bs : List ℕ) {σ τ : Binds} {A : Type 0} → not (shares sig us ws) ≡ true → Takes sig us bs σ → Takes sig ws bs τ → A
    clash us ws bs {σ} {τ} n x y = true≢false (sym n ∙ ap not (exists_shares sig signed us ws (record { words = bs; binds_us = σ; binds_ws = τ; taken_us = x; taken_ws = y })))
