-- A fit binds variables of E only, a failure variables of O only; the paper's theorem 15: an unambiguous linear pattern binds one way.
use mathlib.Core.Path.{◌≡◌, refl, ap, ◌∙◌, sym, ap₂}
use mathlib.Core.List.{◌++◌, [], ◌∷◌, List}
use mathlib.Core.Bool.{◌&&◌, Bool, true, false, ◌||◌}
use Prim.Native.Nat.{ℕ, ◌≤◌}
use native.Mathlib.Omega.{arith}
use lib.Dec.{eqb}
use Rattle.signature.specs.Lawful.{OfKind, of_kind, OfKinds, of_kinds_cons, of_kinds_nil}
use Rattle.signature.specs.Lists.{memb, is_empty}
use Rattle.signature.specs.Signature.{Signature}
use Rattle.signature.specs.Value.{Value, Values}
use Rattle.signature.proofs.Booleans.{or_assoc, Imp, imp_or, one_in, and_right, and_left}
use Rattle.signature.proofs.Members.{memb_append, imp_append_left, imp_append_right, not_bound_in, empty_left, empty_right, no_either}
use Rattle.signature.proofs.Tests.{true≢false, eqb_no}
use Rattle.pattern.specs.Ambiguous.{an_or, an_and}
use Rattle.pattern.specs.Limits.{variable_count}
use Rattle.pattern.specs.Linear.{E, O, E_all, O_all, all_minus, linear_minus, linear_plus, all_plus}
use Rattle.pattern.specs.Match.{Binds, Fits, fits_var, fits_wild, fits_not, fits_and, fits_left, fits_right, fits_con, fits_range, Fails, fails_absurd, fails_not, fails_left, fails_right, fails_or, fails_head, fails_arg, fails_range, AllFit, all_nil, all_cons, SomeFails, some_here, some_there}
use Rattle.pattern.specs.Pattern.{Pattern, var, wild, neg, and, or, head, absurd_pat, range, Patterns, pnil, pcons}
use Rattle.pattern.specs.Places.{binds, Same}
use Rattle.pattern.specs.WellFormed.{WellFormed, well_var, well_not, well_and, well_or, well_head, AllWellFormed, well_cons}
use Rattle.pattern.specs.Side.{plus, minus}
use Rattle.pattern.proofs.AmbiguousParts.{AmbiguousAt, AmbiguousIn, here, under_not, left_of_and, right_of_and, left_of_or, right_of_or, under_head, as_first, as_later}

pub binds_append : (x j : ℕ) (σ τ : Binds) → binds x j (σ ++ τ) ≡ (binds x j σ || binds x j τ)
binds_append x j [] τ = refl
binds_append x j (b ∷ σ) τ = ap (λ z. (eqb x b.0 && eqb j b.1) || z) (binds_append x j σ τ) ∙ sym (or_assoc (eqb x b.0 && eqb j b.1) (binds x j σ) (binds x j τ))

join : (x j : ℕ) (σ τ : Binds) (xs ys : List ℕ) → Imp (binds x j σ) (memb x xs) → Imp (binds x j τ) (memb x ys) → Imp (binds x j (σ ++ τ)) (memb x (xs ++ ys))
join x j σ τ xs ys f g = rw (binds_append x j σ τ, memb_append x xs ys) (imp_or (binds x j σ) (binds x j τ) (memb x xs) (memb x ys) f g)

-- a fit binds variables of E only, a failure variables of O only
mutual
  pub fit_in_E : (p : Pattern) {v : Value} {i : ℕ} {σ : Binds} → Fits p v i σ → (x j : ℕ) → Imp (binds x j σ) (memb x (E p))
  fit_in_E absurd_pat bad x j = elim bad [ ]
  fit_in_E (var y) (fits_var {i = i}) x j = one_in (eqb x y) (eqb j i)
  fit_in_E wild fits_wild x j = λ e. e
  fit_in_E (neg p) (fits_not f) x j = fail_in_O p f x j
  fit_in_E (and p q) (fits_and {σ = σ} {τ = τ} f g) x j = join x j σ τ (E p) (E q) (fit_in_E p f x j) (fit_in_E q g x j)
  fit_in_E (or p q) (fits_left {σ = σ} f) x j = imp_append_left (binds x j σ) x (E p) (E q) (fit_in_E p f x j)
  fit_in_E (or p q) (fits_right {σ = σ} f) x j = imp_append_right (binds x j σ) x (E p) (E q) (fit_in_E q f x j)
  fit_in_E (head c ps) (fits_con e f) x j = all_in_E ps f x j
  fit_in_E (range low high) (fits_range a) x j = λ e. e

  pub fail_in_O : (p : Pattern) {v : Value} {i : ℕ} {σ : Binds} → Fails p v i σ → (x j : ℕ) → Imp (binds x j σ) (memb x (O p))
  fail_in_O wild bad x j = elim bad [ ]
  fail_in_O (var _) bad x j = elim bad [ ]
  fail_in_O absurd_pat fails_absurd x j = λ e. e
  fail_in_O (neg p) (fails_not f) x j = fit_in_E p f x j
  fail_in_O (and p q) (fails_left {σ = σ} f) x j = imp_append_left (binds x j σ) x (O p) (O q) (fail_in_O p f x j)
  fail_in_O (and p q) (fails_right {σ = σ} f) x j = imp_append_right (binds x j σ) x (O p) (O q) (fail_in_O q f x j)
  fail_in_O (or p q) (fails_or {σ = σ} {τ = τ} f g) x j = join x j σ τ (O p) (O q) (fail_in_O p f x j) (fail_in_O q g x j)
  fail_in_O (head c ps) (fails_head n) x j = λ e. true≢false (sym e)
  fail_in_O (head c ps) (fails_arg e f) x j = some_in_O ps f x j
  fail_in_O (range low high) (fails_range a) x j = λ e. e

  all_in_E : (ps : Patterns) {vs : Values} {i : ℕ} {σ : Binds} → AllFit ps vs i σ → (x j : ℕ) → Imp (binds x j σ) (memb x (E_all ps))
  all_in_E pnil all_nil x j = λ e. e
  all_in_E (pcons p ps) (all_cons {σ = σ} {τ = τ} f g) x j = join x j σ τ (E p) (E_all ps) (fit_in_E p f x j) (all_in_E ps g x j)

  some_in_O : (ps : Patterns) {vs : Values} {i : ℕ} {σ : Binds} → SomeFails ps vs i σ → (x j : ℕ) → Imp (binds x j σ) (memb x (O_all ps))
  some_in_O pnil bad x j = elim bad [ ]
  some_in_O (pcons p ps) (some_here {σ = σ} f) x j = imp_append_left (binds x j σ) x (O p) (O_all ps) (fail_in_O p f x j)
  some_in_O (pcons p ps) (some_there {σ = σ} f) x j = imp_append_right (binds x j σ) x (O p) (O_all ps) (some_in_O ps f x j)

same_append : (σ τ σ' τ' : Binds) → Same σ σ' → Same τ τ' → Same (σ ++ τ) (σ' ++ τ')
same_append σ τ σ' τ' f g x j = binds_append x j σ τ ∙ ap₂ ◌||◌ (f x j) (g x j) ∙ sym (binds_append x j σ' τ')

module _ (sig : Signature) where
  -- two sides of which both can hold bind nothing
  clash_or : (p q : Pattern) {k i : ℕ} {v : Value} {σ τ : Binds} → (AmbiguousAt sig plus k (or p q) → ⊥) → OfKind sig k v → Fits p v i σ → Fits q v i τ → Same σ τ
  clash_or p q {k} {i} {v} {σ} {τ} n h f g x j = go (is_empty (E p ++ E q)) refl
    where
      go : (b : Bool) → is_empty (E p ++ E q) ≡ b → binds x j σ ≡ binds x j τ
      go true e = not_bound_in x (E p) (binds x j σ) (empty_left (E p) (E q) e) (fit_in_E p f x j) ∙ sym (not_bound_in x (E q) (binds x j τ) (empty_right (E p) (E q) e) (fit_in_E q g x j))
      go false e = absurd (n (here (an_or e h f g)))

  clash_and : (p q : Pattern) {k i : ℕ} {v : Value} {σ τ : Binds} → (AmbiguousAt sig minus k (and p q) → ⊥) → OfKind sig k v → Fails p v i σ → Fails q v i τ → Same σ τ
  clash_and p q {k} {i} {v} {σ} {τ} n h f g x j = go (is_empty (O p ++ O q)) refl
    where
      go : (b : Bool) → is_empty (O p ++ O q) ≡ b → binds x j σ ≡ binds x j τ
      go true e = not_bound_in x (O p) (binds x j σ) (empty_left (O p) (O q) e) (fail_in_O p f x j) ∙ sym (not_bound_in x (O q) (binds x j τ) (empty_right (O p) (O q) e) (fail_in_O q g x j))
      go false e = absurd (n (here (an_and e h f g)))

-- arguments of a minus constructor bind nothing
pub minus_empty : (ps : Patterns) → all_minus ps ≡ true → is_empty (O_all ps) ≡ true
minus_empty pnil e = refl
minus_empty (pcons p ps) e = go (O p) (and_right (linear_minus p && all_minus ps) (is_empty (O p)) e) (minus_empty ps (and_right (linear_minus p) (all_minus ps) (and_left (linear_minus p && all_minus ps) (is_empty (O p)) e)))
  where
    go : (xs : List ℕ) → is_empty xs ≡ true → is_empty (O_all ps) ≡ true → is_empty (xs ++ O_all ps) ≡ true
    go [] e' h = h
    go (x ∷ xs) e' h = e'

module _ (sig : Signature) where
  mutual
    pub same_fits : {k : ℕ} (p : Pattern) {v : Value} {i : ℕ} {σ τ : Binds} → linear_plus p ≡ true → (AmbiguousAt sig plus k p → ⊥) → OfKind sig k v → Fits p v i σ → Fits p v i τ → Same σ τ
    same_fits (var y) l n h fits_var fits_var = λ x j. refl
    same_fits wild l n h fits_wild fits_wild = λ x j. refl
    same_fits absurd_pat l n h bad _ = elim bad [ ]
    same_fits (neg p) l n h (fits_not f) (fits_not g) = same_fails p l (λ a. n (under_not a)) h f g
    same_fits (and p q) l n h (fits_and {σ = σ} {τ = τ} f f') (fits_and {σ = σ'} {τ = τ'} g g') =
        let a : (linear_plus p && linear_plus q) ≡ true = and_left (linear_plus p && linear_plus q) _ l in
        same_append σ τ σ' τ' (same_fits p (and_left (linear_plus p) (linear_plus q) a) (λ c. n (left_of_and c)) h f g) (same_fits q (and_right (linear_plus p) (linear_plus q) a) (λ c. n (right_of_and c)) h f' g')
    same_fits (or p q) l n h (fits_left f) (fits_left g) = same_fits p (and_left (linear_plus p) (linear_plus q) (and_left (linear_plus p && linear_plus q) _ l)) (λ c. n (left_of_or c)) h f g
    same_fits (or p q) l n h (fits_right f) (fits_right g) = same_fits q (and_right (linear_plus p) (linear_plus q) (and_left (linear_plus p && linear_plus q) _ l)) (λ c. n (right_of_or c)) h f g
    same_fits (or p q) l n h (fits_left f) (fits_right g) = clash_or sig p q n h f g
    same_fits (or p q) l n h (fits_right f) (fits_left g) = λ x j. sym (clash_or sig p q n h g f x j)
    same_fits {k} (head c ps) l n (of_kind e h) (fits_con a f) (fits_con b g) = same_all ps l (λ z. n (under_head (rw a e) z)) h f g
    same_fits (range low high) l n h (fits_range a) (fits_range b) = λ x j. refl

    pub same_fails : {k : ℕ} (p : Pattern) {v : Value} {i : ℕ} {σ τ : Binds} → linear_minus p ≡ true → (AmbiguousAt sig minus k p → ⊥) → OfKind sig k v → Fails p v i σ → Fails p v i τ → Same σ τ
    same_fails (var y) l n h bad _ = elim bad [ ]
    same_fails wild l n h bad _ = elim bad [ ]
    same_fails absurd_pat l n h fails_absurd fails_absurd = λ x j. refl
    same_fails (neg p) l n h (fails_not f) (fails_not g) = same_fits p l (λ a. n (under_not a)) h f g
    same_fails (or p q) l n h (fails_or {σ = σ} {τ = τ} f f') (fails_or {σ = σ'} {τ = τ'} g g') =
        let a : (linear_minus p && linear_minus q) ≡ true = and_left (linear_minus p && linear_minus q) _ l in
        same_append σ τ σ' τ' (same_fails p (and_left (linear_minus p) (linear_minus q) a) (λ c. n (left_of_or c)) h f g) (same_fails q (and_right (linear_minus p) (linear_minus q) a) (λ c. n (right_of_or c)) h f' g')
    same_fails (and p q) l n h (fails_left f) (fails_left g) = same_fails p (and_left (linear_minus p) (linear_minus q) (and_left (linear_minus p && linear_minus q) _ l)) (λ c. n (left_of_and c)) h f g
    same_fails (and p q) l n h (fails_right f) (fails_right g) = same_fails q (and_right (linear_minus p) (linear_minus q) (and_left (linear_minus p && linear_minus q) _ l)) (λ c. n (right_of_and c)) h f g
    same_fails (and p q) l n h (fails_left f) (fails_right g) = clash_and sig p q n h f g
    same_fails (and p q) l n h (fails_right f) (fails_left g) = λ x j. sym (clash_and sig p q n h g f x j)
    same_fails (head c ps) l n h (fails_head a) (fails_head b) = λ x j. refl
    same_fails (head c ps) l n h (fails_head a) (fails_arg b g) = absurd (a b)
    same_fails (head c ps) l n h (fails_arg a f) (fails_head b) = absurd (b a)
    same_fails (head c ps) l n h (fails_arg {σ = σ} a f) (fails_arg {σ = τ} b g) = λ x j. not_bound_in x (O_all ps) (binds x j σ) (minus_empty ps l) (some_in_O ps f x j) ∙ sym (not_bound_in x (O_all ps) (binds x j τ) (minus_empty ps l) (some_in_O ps g x j))
    same_fails (range low high) l n h (fails_range a) (fails_range b) = λ x j. refl

    same_all : {ks : List ℕ} (ps : Patterns) {vs : Values} {i : ℕ} {σ τ : Binds} → all_plus ps ≡ true → (AmbiguousIn sig plus ks ps → ⊥) → OfKinds sig ks vs → AllFit ps vs i σ → AllFit ps vs i τ → Same σ τ
    same_all (pcons p ps) l n of_kinds_nil bad _ = elim bad [ ]
    same_all pnil l n h all_nil all_nil = λ x j. refl
    same_all (pcons p ps) l n (of_kinds_cons h h') (all_cons {σ = σ} {τ = τ} f f') (all_cons {σ = σ'} {τ = τ'} g g') =
        let a : (linear_plus p && all_plus ps) ≡ true = and_left (linear_plus p && all_plus ps) _ l in
        same_append σ τ σ' τ' (same_fits p (and_left (linear_plus p) (all_plus ps) a) (λ c. n (as_first c)) h f g) (same_all ps (and_right (linear_plus p) (all_plus ps) a) (λ c. n (as_later c)) h' f' g')

module _ (sig : Signature) where
  mutual
    pub no_E : (p : Pattern) {k : ℕ} → WellFormed sig k p → (x : ℕ) → variable_count ≤ x → memb x (E p) ≡ false
    no_E (var y) (well_var l) x m = rw (eqb_no x y (λ e. omega arith))
    no_E wild s x m = refl
    no_E absurd_pat s x m = refl
    no_E (neg p) (well_not s) x m = no_O p s x m
    no_E (and p q) (well_and s t) x m = no_either x (E p) (E q) (no_E p s x m) (no_E q t x m)
    no_E (or p q) (well_or s t) x m = no_either x (E p) (E q) (no_E p s x m) (no_E q t x m)
    no_E (head c ps) (well_head l e s) x m = no_E_all ps s x m
    no_E (range low high) s x m = refl

    no_O : (p : Pattern) {k : ℕ} → WellFormed sig k p → (x : ℕ) → variable_count ≤ x → memb x (O p) ≡ false
    no_O (var y) s x m = refl
    no_O wild s x m = refl
    no_O absurd_pat s x m = refl
    no_O (neg p) (well_not s) x m = no_E p s x m
    no_O (and p q) (well_and s t) x m = no_either x (O p) (O q) (no_O p s x m) (no_O q t x m)
    no_O (or p q) (well_or s t) x m = no_either x (O p) (O q) (no_O p s x m) (no_O q t x m)
    no_O (head c ps) (well_head l e s) x m = no_O_all ps s x m
    no_O (range low high) s x m = refl

    no_E_all : (ps : Patterns) {ks : List ℕ} → AllWellFormed sig ks ps → (x : ℕ) → variable_count ≤ x → memb x (E_all ps) ≡ false
    no_E_all pnil s x m = refl
    no_E_all (pcons p ps) (well_cons s t) x m = no_either x (E p) (E_all ps) (no_E p s x m) (no_E_all ps t x m)

    no_O_all : (ps : Patterns) {ks : List ℕ} → AllWellFormed sig ks ps → (x : ℕ) → variable_count ≤ x → memb x (O_all ps) ≡ false
    no_O_all pnil s x m = refl
    no_O_all (pcons p ps) (well_cons s t) x m = no_either x (O p) (O_all ps) (no_O p s x m) (no_O_all ps t x m)
