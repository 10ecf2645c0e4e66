-- Demand 2: one rule, and the rules of a sound table.
use mathlib.Core.Path.{◌≡◌, refl, ap, subst}
use mathlib.Core.Logic.{inl, inr}
use mathlib.Core.List.{List, ◌∷◌, []}
use mathlib.Core.Option.{some}
use mathlib.Core.Bool.{Bool, true, not}
use Prim.Native.Nat.{ℕ}
use lib.Dec.{eqb}
use Rattle.signature.specs.Lists.{all, In, in_here, in_there}
use Rattle.signature.specs.Read.{read_booking, Signed}
use Rattle.signature.specs.Signature.{Signature}
use Rattle.signature.specs.Value.{Value}
use Rattle.signature.proofs.Booleans.{and_left, and_right}
use Rattle.signature.proofs.Tests.{eqb_eq}
use Rattle.signature.proofs.Values.{booking_lawful}
use Rattle.pattern.specs.Decide.{decide, Out, fit, fail}
use Rattle.pattern.specs.Match.{Binds, Fails}
use Rattle.pattern.specs.Pattern.{Pattern}
use Rattle.pattern.specs.Places.{bind_all, unbound, PlacesOf}
use Rattle.pattern.specs.Takes.{Takes, TakesNot}
use Rattle.pattern.proofs.Decided.{decide_says, Says, says_fits, says_fails, not_takes}
use Rattle.pattern.proofs.Exclusive.{exclusive}
use Rattle.pattern.proofs.Once.{places_of, once_fits, places_only}
use Rattle.pattern.proofs.PatternBack.{pattern_words}
use Rattle.row.specs.Admitted.{refusal_of_pattern, Passed}
use Rattle.row.specs.Overlap.{shares}
use Rattle.row.proofs.PassedFacts.{passed_of, takes_fits, takes_fails, one_list_of, clash}
use Rattle.tree.specs.Answer.{Answer, no_rule}
use Rattle.table.specs.Decide.{OneRule, direct, Answered, by_default, by_rule}
use Rattle.table.specs.Rule.{Rule}
use Rattle.table.specs.Sound.{no_shared}
use Rattle.table.proofs.TableFacts.{Valid}

module _ (dft : ℕ) (sig : Signature) where
  pub one_rule : (r : Rule) (bs : List ℕ) (v : Value) → refusal_of_pattern sig r.pattern ≡ 0 → read_booking sig bs ≡ some v → OneRule dft sig r bs v
  one_rule r bs v e b = go (decide p v 0) refl (decide_says sig p (pattern_words sig r.pattern p h.read).well_formed v (booking_lawful sig bs v b).kind_0 0)
    where
      h : Passed sig r.pattern
      h = passed_of sig r.pattern e

      p : Pattern
      p = h.pat

      both : (σ τ : Binds) → Takes sig r.pattern bs σ → TakesNot sig r.pattern bs τ → ⊥
      both σ τ x y = exclusive h.pat (takes_fits sig r.pattern bs h v b x) (takes_fails sig r.pattern bs h v b y)

      go : (o : Out) → decide h.pat v 0 ≡ o → Says h.pat v 0 o → OneRule dft sig r bs v
      go (fit τ) q (says_fits g) = record { either = inl (τ, (h.pat, v, h.read, b, g)); not_both = both; taken = λ σ x. rw (h.read, q) (ap (λ z. record { rule = r.number; plan = r.plan; places = z }) (one_list_of sig r.pattern bs h v b g (takes_fits sig r.pattern bs h v b x))); places = λ σ x. places_of σ (once_fits h.pat h.linear (takes_fits sig r.pattern bs h v b x)); one_list = λ σ ρ x y. one_list_of sig r.pattern bs h v b (takes_fits sig r.pattern bs h v b x) (takes_fits sig r.pattern bs h v b y); not_taken = λ σ y. absurd (both τ σ (h.pat, v, h.read, b, g) y) }
      go (fail τ) q (says_fails g) = record { either = inr (τ, (h.pat, v, h.read, b, g)); not_both = both; taken = λ σ x. absurd (both σ τ x (h.pat, v, h.read, b, g)); places = λ σ x. places_of σ (once_fits h.pat h.linear (takes_fits sig r.pattern bs h v b x)); one_list = λ σ ρ x y. one_list_of sig r.pattern bs h v b (takes_fits sig r.pattern bs h v b x) (takes_fits sig r.pattern bs h v b y); not_taken = λ σ y. rw (h.read, q) }

pub apart_in : (f : Rule → Bool) (rs : List Rule) (s : Rule) → all f rs ≡ true → In s rs → f s ≡ true
apart_in f [] s h x'' = elim x'' [ ]
apart_in f (t ∷ rs) s h in_here = and_left (f t) (all f rs) h
apart_in f (t ∷ rs) s h (in_there i) = apart_in f rs s (and_right (f t) (all f rs) h) i

module _ (sig : Signature) where
  -- rules of which no two share a booking: one at most takes it
  module _ (signed : Signed sig) where
    pub one_taker : (rs : List Rule) (bs : List ℕ) (r s : Rule) {σ τ : Binds} → no_shared sig rs ≡ true → In r rs → In s rs → Takes sig r.pattern bs σ → Takes sig s.pattern bs τ → s ≡ r
    one_taker [] bs r s {σ = σ} {τ = τ} n x6 _ x y = elim x6 [ ]
    one_taker (t ∷ rs) bs r s n in_here in_here x y = refl
    one_taker (t ∷ rs) bs r s n in_here (in_there j) x y = clash sig signed t.pattern s.pattern bs (apart_in (λ u. not (shares sig t.pattern u.pattern)) rs s (and_left (all (λ u. not (shares sig t.pattern u.pattern)) rs) (no_shared sig rs) n) j) x y
    one_taker (t ∷ rs) bs r s n (in_there i) in_here x y = clash sig signed t.pattern r.pattern bs (apart_in (λ u. not (shares sig t.pattern u.pattern)) rs r (and_left (all (λ u. not (shares sig t.pattern u.pattern)) rs) (no_shared sig rs) n) i) y x
    one_taker (t ∷ rs) bs r s n (in_there i) (in_there j) x y = one_taker rs bs r s (and_right (all (λ u. not (shares sig t.pattern u.pattern)) rs) (no_shared sig rs) n) i j x y

module _ (dft : ℕ) (sig : Signature) where
  -- rules of which no two share a booking: one at most takes it
  module _ (signed : Signed sig) where
    -- what direct finds
    data Found (rs : List Rule) (bs : List ℕ) (v : Value) (a : Answer) : Type 0 where
      found_rule : (r : Rule) (σ : Binds) → In r rs → refusal_of_pattern sig r.pattern ≡ 0 → Takes sig r.pattern bs σ → a ≡ record { rule = r.number; plan = r.plan; places = bind_all σ unbound } → Found rs bs v a
      found_none : ((r : Rule) → In r rs → (σ : Binds) × TakesNot sig r.pattern bs σ) → a ≡ no_rule dft → Found rs bs v a

module _ (sig : Signature) where
  -- rules of which no two share a booking: one at most takes it
  module _ (signed : Signed sig) where
    no_one : (bs : List ℕ) (r : Rule) → In r [] → (σ : Binds) × TakesNot sig r.pattern bs σ
    no_one bs r i = elim i [ ]

module _ (dft : ℕ) (sig : Signature) where
  -- rules of which no two share a booking: one at most takes it
  module _ (signed : Signed sig) where
    find : (rs : List Rule) (bs : List ℕ) (v : Value) → all (λ r. eqb (refusal_of_pattern sig r.pattern) 0) rs ≡ true → read_booking sig bs ≡ some v → Found dft sig signed rs bs v (direct dft sig rs v)
    find [] bs v e b = found_none (λ r i. no_one sig signed bs r i) refl
    find (r ∷ rs) bs v e b = go (decide p v 0) refl (decide_says sig p (pattern_words sig r.pattern p h.read).well_formed v (booking_lawful sig bs v b).kind_0 0) (find rs bs v (and_right (eqb (refusal_of_pattern sig r.pattern) 0) (all (λ s. eqb (refusal_of_pattern sig s.pattern) 0) rs) e) b)
      where
        e₀ : refusal_of_pattern sig r.pattern ≡ 0
        e₀ = eqb_eq (refusal_of_pattern sig r.pattern) 0 (and_left (eqb (refusal_of_pattern sig r.pattern) 0) (all (λ s. eqb (refusal_of_pattern sig s.pattern) 0) rs) e)

        h : Passed sig r.pattern
        h = passed_of sig r.pattern e₀

        p : Pattern
        p = h.pat

        also_not : {τ : Binds} → Fails h.pat v 0 τ → ((s : Rule) → In s rs → (σ : Binds) × TakesNot sig s.pattern bs σ) → (s : Rule) → In s (r ∷ rs) → (σ : Binds) × TakesNot sig s.pattern bs σ
        also_not {τ} g f s in_here = (τ, (h.pat, v, h.read, b, g))
        also_not {τ} g f s (in_there i) = f s i

        later : {τ : Binds} → Fails h.pat v 0 τ → Found dft sig signed rs bs v (direct dft sig rs v) → Found dft sig signed (r ∷ rs) bs v (direct dft sig rs v)
        later g (found_rule s σ i z x q) = found_rule s σ (in_there i) z x q
        later g (found_none f q) = found_none (λ s i. also_not g f s i) q

        go : (o : Out) → decide h.pat v 0 ≡ o → Says h.pat v 0 o → Found dft sig signed rs bs v (direct dft sig rs v) → Found dft sig signed (r ∷ rs) bs v (direct dft sig (r ∷ rs) v)
        go (fit τ) q (says_fits g) k = found_rule r τ in_here e₀ (h.pat, v, h.read, b, g) (rw (h.read, q))
        go (fail τ) q (says_fails g) k = rw (h.read, q) (later g k)

    -- the answer that the rules give directly
    pub answered : (rs : List Rule) (bs : List ℕ) (v : Value) → Valid sig rs → read_booking sig bs ≡ some v → Answered dft sig rs bs (direct dft sig rs v)
    answered rs bs v ok b = go (find rs bs v ok.passed b)
      where
        go : Found dft sig signed rs bs v (direct dft sig rs v) → Answered dft sig rs bs (direct dft sig rs v)
        go (found_none f q) = rw q (by_default f)
        go (found_rule r σ i z x q) =
            let h = one_rule dft sig r bs v z b in
            rw q (by_rule r σ (bind_all σ unbound) i x (λ s τ j y. one_taker sig signed rs bs r s ok.apart i j x y) (λ τ y. subst (PlacesOf τ) (h.one_list τ σ y x) (h.places τ y)))

    -- and there is one such answer
    pub answered_only : (rs : List Rule) (bs : List ℕ) (a b : Answer) → Answered dft sig rs bs a → Answered dft sig rs bs b → a ≡ b
    answered_only rs bs a b (by_rule r σ ps i x u f) (by_rule s τ qs j y w g) =
        let e : s ≡ r = u s τ j y in
        let y' : Takes sig r.pattern bs τ = subst (λ z. Takes sig z.pattern bs τ) e y in
        let z : ps ≡ qs = places_only τ ps qs (f τ y') (g τ y) in
        rw (z, e)
    answered_only rs bs a b (by_rule r σ ps i x u f) (by_default g) = let (τ, y) = g r i in absurd (not_takes sig signed r.pattern bs x y)
    answered_only rs bs a b (by_default g) (by_rule r σ ps i x u f) = let (τ, y) = g r i in absurd (not_takes sig signed r.pattern bs x y)
    answered_only rs bs a b (by_default f) (by_default g) = refl
