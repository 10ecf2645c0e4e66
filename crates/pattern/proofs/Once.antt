-- Linear patterns bind no variable twice (the paper, theorem 11), and the 16 places that bindings give.
use mathlib.Core.Path.{◌≡◌, refl, ◌∙◌, sym}
use mathlib.Core.Logic.{◌⊎◌, inl, inr}
use mathlib.Core.List.{◌++◌, [], ◌∷◌, List}
use mathlib.Core.Bool.{Bool, true, false, not, ◌&&◌, ◌||◌}
use Prim.Native.Nat.{ℕ, ◌+◌, ◌≤◌, ◌<◌}
use native.Mathlib.Omega.{arith}
use lib.Dec.{eqb}
use lib.ListN.{length, set, length-set, get_or}
use lib.Seq.{get_or-set_other, get_or-set_same}
use Rattle.signature.specs.Lists.{memb, is_empty}
use Rattle.signature.specs.Value.{Value, Values}
use Rattle.signature.proofs.Booleans.{not_true, and_left, and_right}
use Rattle.signature.proofs.ListFacts.{same_lists, getD_rep}
use Rattle.signature.proofs.Members.{memb_append, all_memb}
use Rattle.signature.proofs.Tests.{eqb_ne, true≢false, eqb_eq, eqb_self}
use Rattle.pattern.specs.Limits.{variable_count, unbound_place}
use Rattle.pattern.specs.Linear.{disjoint, linear_plus, E, same_set, linear_minus, O, all_plus, E_all, all_minus, O_all}
use Rattle.pattern.specs.Match.{Binds, Fits, fits_var, fits_wild, fits_not, fits_and, fits_left, fits_right, fits_con, fits_range, Fails, fails_absurd, fails_not, fails_or, fails_left, fails_right, fails_head, fails_arg, fails_range, AllFit, all_nil, all_cons, SomeFails, some_here, some_there}
use Rattle.pattern.specs.Pattern.{Pattern, var, wild, neg, and, or, head, absurd_pat, range, Patterns, pnil, pcons}
use Rattle.pattern.specs.Places.{times, tick, Once, bind_all, binds, Same, PlacesOf, unbound}

pub times_append : (x : ℕ) (σ τ : Binds) → times x (σ ++ τ) ≡ times x σ + times x τ
times_append x [] τ = omega arith
times_append x (b ∷ σ) τ = omega (arith, times_append x σ τ)

-- sets of variables
tick_or : (a b : Bool) → (a ≡ true → b ≡ false) → tick a + tick b ≤ tick (a || b)
tick_or true b f = rw (f refl) (omega arith)
tick_or false b f = omega arith

pub disjoint_tick : (x : ℕ) (xs ys : List ℕ) → disjoint xs ys ≡ true → tick (memb x xs) + tick (memb x ys) ≤ tick (memb x (xs ++ ys))
disjoint_tick x xs ys d = rw (memb_append x xs ys) (tick_or (memb x xs) (memb x ys) (λ m. not_true (memb x ys) (all_memb (λ y. not (memb y ys)) x xs d m)))

left_or : (a b : Bool) → tick a ≤ tick (a || b)
left_or true b = omega arith
left_or false b = omega arith

right_or : (a b : Bool) → tick b ≤ tick (a || b)
right_or true true = omega arith
right_or true false = omega arith
right_or false b = omega arith

pub left_tick : (x : ℕ) (xs ys : List ℕ) → tick (memb x xs) ≤ tick (memb x (xs ++ ys))
left_tick x xs ys = rw (memb_append x xs ys) (left_or (memb x xs) (memb x ys))

pub right_tick : (x : ℕ) (xs ys : List ℕ) → tick (memb x ys) ≤ tick (memb x (xs ++ ys))
right_tick x xs ys = rw (memb_append x xs ys) (right_or (memb x xs) (memb x ys))

pub one_tick : (b : Bool) → tick b + 0 ≤ tick (b || false)
one_tick true = omega arith
one_tick false = omega arith

pub tick_one : (b : Bool) → tick b ≤ 1
tick_one true = omega arith
tick_one false = omega arith

-- a fit binds a variable of E at most once and no other, a failure likewise of O
mutual
  pub fit_once : (p : Pattern) {v : Value} {i : ℕ} {σ : Binds} → linear_plus p ≡ true → Fits p v i σ → (x : ℕ) → times x σ ≤ tick (memb x (E p))
  fit_once absurd_pat l bad x = elim bad [ ]
  fit_once (var y) l fits_var x = one_tick (eqb x y)
  fit_once wild l fits_wild x = omega arith
  fit_once (neg p) l (fits_not f) x = fail_once p l f x
  fit_once (and p q) l (fits_and {σ = σ} {τ = τ} f g) x =
      let a : (linear_plus p && linear_plus q) ≡ true = and_left (linear_plus p && linear_plus q) (disjoint (E p) (E q)) l in
      omega (arith, times_append x σ τ, fit_once p (and_left (linear_plus p) (linear_plus q) a) f x, fit_once q (and_right (linear_plus p) (linear_plus q) a) g x, disjoint_tick x (E p) (E q) (and_right (linear_plus p && linear_plus q) (disjoint (E p) (E q)) l))
  fit_once (or p q) l (fits_left f) x =
      let a : (linear_plus p && linear_plus q) ≡ true = and_left (linear_plus p && linear_plus q) (same_set (E p) (E q)) l in
      omega (arith, fit_once p (and_left (linear_plus p) (linear_plus q) a) f x, left_tick x (E p) (E q))
  fit_once (or p q) l (fits_right f) x =
      let a : (linear_plus p && linear_plus q) ≡ true = and_left (linear_plus p && linear_plus q) (same_set (E p) (E q)) l in
      omega (arith, fit_once q (and_right (linear_plus p) (linear_plus q) a) f x, right_tick x (E p) (E q))
  fit_once (head c ps) l (fits_con e f) x = all_once ps l f x
  fit_once (range low high) l (fits_range e) x = omega arith

  pub fail_once : (p : Pattern) {v : Value} {i : ℕ} {σ : Binds} → linear_minus p ≡ true → Fails p v i σ → (x : ℕ) → times x σ ≤ tick (memb x (O p))
  fail_once wild l bad x = elim bad [ ]
  fail_once (var _) l bad x = elim bad [ ]
  fail_once absurd_pat l fails_absurd x = omega arith
  fail_once (neg p) l (fails_not f) x = fit_once p l f x
  fail_once (or p q) l (fails_or {σ = σ} {τ = τ} f g) x =
      let a : (linear_minus p && linear_minus q) ≡ true = and_left (linear_minus p && linear_minus q) (disjoint (O p) (O q)) l in
      omega (arith, times_append x σ τ, fail_once p (and_left (linear_minus p) (linear_minus q) a) f x, fail_once q (and_right (linear_minus p) (linear_minus q) a) g x, disjoint_tick x (O p) (O q) (and_right (linear_minus p && linear_minus q) (disjoint (O p) (O q)) l))
  fail_once (and p q) l (fails_left f) x =
      let a : (linear_minus p && linear_minus q) ≡ true = and_left (linear_minus p && linear_minus q) (same_set (O p) (O q)) l in
      omega (arith, fail_once p (and_left (linear_minus p) (linear_minus q) a) f x, left_tick x (O p) (O q))
  fail_once (and p q) l (fails_right f) x =
      let a : (linear_minus p && linear_minus q) ≡ true = and_left (linear_minus p && linear_minus q) (same_set (O p) (O q)) l in
      omega (arith, fail_once q (and_right (linear_minus p) (linear_minus q) a) f x, right_tick x (O p) (O q))
  fail_once (head c ps) l (fails_head n) x = omega arith
  fail_once (head c ps) l (fails_arg e f) x = some_once ps l f x
  fail_once (range low high) l (fails_range e) x = omega arith

  all_once : (ps : Patterns) {vs : Values} {i : ℕ} {σ : Binds} → all_plus ps ≡ true → AllFit ps vs i σ → (x : ℕ) → times x σ ≤ tick (memb x (E_all ps))
  all_once pnil l all_nil x = omega arith
  all_once (pcons p ps) l (all_cons {σ = σ} {τ = τ} f g) x =
      let a : (linear_plus p && all_plus ps) ≡ true = and_left (linear_plus p && all_plus ps) (disjoint (E p) (E_all ps)) l in
      omega (arith, times_append x σ τ, fit_once p (and_left (linear_plus p) (all_plus ps) a) f x, all_once ps (and_right (linear_plus p) (all_plus ps) a) g x, disjoint_tick x (E p) (E_all ps) (and_right (linear_plus p && all_plus ps) (disjoint (E p) (E_all ps)) l))

  some_once : (ps : Patterns) {vs : Values} {i : ℕ} {σ : Binds} → all_minus ps ≡ true → SomeFails ps vs i σ → (x : ℕ) → times x σ ≤ tick (memb x (O_all ps))
  some_once pnil l bad x = elim bad [ ]
  some_once (pcons p ps) l (some_here f) x =
      let a : (linear_minus p && all_minus ps) ≡ true = and_left (linear_minus p && all_minus ps) (is_empty (O p)) l in
      omega (arith, fail_once p (and_left (linear_minus p) (all_minus ps) a) f x, left_tick x (O p) (O_all ps))
  some_once (pcons p ps) l (some_there f) x =
      let a : (linear_minus p && all_minus ps) ≡ true = and_left (linear_minus p && all_minus ps) (is_empty (O p)) l in
      omega (arith, some_once ps (and_right (linear_minus p) (all_minus ps) a) f x, right_tick x (O p) (O_all ps))

pub once_fits : (p : Pattern) {v : Value} {i : ℕ} {σ : Binds} → linear_plus p ≡ true → Fits p v i σ → Once σ
once_fits p l f x = omega (arith, fit_once p l f x, tick_one (memb x (E p)))

-- the places of bindings
pub length_bind : (σ : Binds) (ps : List ℕ) → length (bind_all σ ps) ≡ length ps
length_bind [] ps = refl
length_bind (b ∷ σ) ps = length_bind σ (set ps b.0 b.1) ∙ length-set ps b.0 b.1

pub bind_none : (x : ℕ) (σ : Binds) (ps : List ℕ) → times x σ ≡ 0 → get_or (bind_all σ ps) x 0 ≡ get_or ps x 0
bind_none x [] ps e = refl
bind_none x (b ∷ σ) ps e = go (eqb x b.0) refl (bind_none x σ (set ps b.0 b.1))
  where
    go : (c : Bool) → eqb x b.0 ≡ c → (times x σ ≡ 0 → get_or (bind_all σ (set ps b.0 b.1)) x 0 ≡ get_or (set ps b.0 b.1) x 0) → get_or (bind_all (b ∷ σ) ps) x 0 ≡ get_or ps x 0
    go true q f = absurd (let z : tick true + times x σ ≡ 0 = rw q at e in omega arith)
    go false q f =
        let z : times x σ ≡ 0 = omega arith in
        f z ∙ get_or-set_other ps b.0 x b.1 0 (eqb_ne x b.0 q)

pub binds_times : (x j : ℕ) (τ : Binds) → binds x j τ ≡ true → 1 ≤ times x τ
binds_times x j [] e = true≢false (sym e)
binds_times x j (b ∷ τ) e = on (eqb x b.0) refl (binds_times x j τ)
  where
    on : (c : Bool) → eqb x b.0 ≡ c → (binds x j τ ≡ true → 1 ≤ times x τ) → 1 ≤ tick (eqb x b.0) + times x τ
    on true q f = rw q (omega arith)
    on false q f = omega (arith, f (rw q at e))

pub bind_one : (x j : ℕ) (σ : Binds) (ps : List ℕ) → x < length ps → times x σ ≤ 1 → binds x j σ ≡ true → get_or (bind_all σ ps) x 0 ≡ j
bind_one x j [] ps l o e = true≢false (sym e)
bind_one x j (b ∷ σ) ps l o e = go (eqb x b.0) (eqb j b.1) refl refl (bind_one x j σ (set ps b.0 b.1))
  where
    inside : x < length (set ps b.0 b.1)
    inside = rw (length-set ps b.0 b.1) l

    go : (c d : Bool) → eqb x b.0 ≡ c → eqb j b.1 ≡ d → (x < length (set ps b.0 b.1) → times x σ ≤ 1 → binds x j σ ≡ true → get_or (bind_all σ (set ps b.0 b.1)) x 0 ≡ j) → get_or (bind_all (b ∷ σ) ps) x 0 ≡ j
    go true true q r f =
        let z : tick true + times x σ ≤ 1 = rw q at o in
        let w : times x σ ≡ 0 = omega arith in
        bind_none x σ (set ps b.0 b.1) w ∙ rw (← eqb_eq x b.0 q, ← eqb_eq j b.1 r) (get_or-set_same ps x j 0 l)
    go true false q r f =
        let z : tick true + times x σ ≤ 1 = rw q at o in
        let w : times x σ ≡ 0 = omega arith in
        let m : 1 ≤ times x σ = binds_times x j σ (rw (q, r) at e) in
        absurd (omega arith)
    go false d q r f = f inside (let z : tick false + times x σ ≤ 1 = rw q at o in omega arith) (rw q at e)

pub bound_or_not : (x : ℕ) (σ : Binds) → (times x σ ≡ 0) ⊎ ((j : ℕ) × (binds x j σ ≡ true))
bound_or_not x [] = inl refl
bound_or_not x (b ∷ σ) = go (eqb x b.0) refl (bound_or_not x σ)
  where
    or_true : (a : Bool) → (a || true) ≡ true
    or_true true = refl
    or_true false = refl

    go : (c : Bool) → eqb x b.0 ≡ c → (times x σ ≡ 0) ⊎ ((j : ℕ) × (binds x j σ ≡ true)) → (times x (b ∷ σ) ≡ 0) ⊎ ((j : ℕ) × (binds x j (b ∷ σ) ≡ true))
    go true q h = inr (b.1, rw (q, eqb_self b.1))
    go false q (inl z) = inl (rw q (omega arith))
    go false q (inr (j, m)) = inr (j, rw m (or_true (eqb x b.0 && eqb j b.1)))

-- bindings that are the same, each variable once: the same places
pub same_places : (σ τ : Binds) (ps : List ℕ) → Once σ → Once τ → Same σ τ → bind_all σ ps ≡ bind_all τ ps
same_places σ τ ps o u s = same_lists (bind_all σ ps) (bind_all τ ps) (length_bind σ ps ∙ sym (length_bind τ ps)) (λ x l. at_x x (rw (length_bind σ ps) at l))
  where
    at_x : (x : ℕ) → x < length ps → get_or (bind_all σ ps) x 0 ≡ get_or (bind_all τ ps) x 0
    at_x x l = go (bound_or_not x σ) (bound_or_not x τ)
      where
        go : (times x σ ≡ 0) ⊎ ((j : ℕ) × (binds x j σ ≡ true)) → (times x τ ≡ 0) ⊎ ((j : ℕ) × (binds x j τ ≡ true)) → get_or (bind_all σ ps) x 0 ≡ get_or (bind_all τ ps) x 0
        go (inl a) (inl b) = bind_none x σ ps a ∙ sym (bind_none x τ ps b)
        go (inr (j, a)) w = bind_one x j σ ps l (o x) a ∙ sym (bind_one x j τ ps l (u x) (sym (s x j) ∙ a))
        go (inl a) (inr (j, b)) = absurd (omega (arith, binds_times x j σ (s x j ∙ b)))

not_bound : (x : ℕ) (σ : Binds) → ((j : ℕ) → binds x j σ ≡ false) → times x σ ≡ 0
not_bound x σ f = go (bound_or_not x σ)
  where
    go : (times x σ ≡ 0) ⊎ ((j : ℕ) × (binds x j σ ≡ true)) → times x σ ≡ 0
    go (inl a) = a
    go (inr (j, a)) = true≢false (sym a ∙ f j)

pub places_of : (σ : Binds) → Once σ → PlacesOf σ (bind_all σ unbound)
places_of σ o = record { sixteen = length_bind σ unbound; bound = λ x j l e. bind_one x j σ unbound (omega arith) (o x) e; free = λ x l f. bind_none x σ unbound (not_bound x σ f) ∙ getD_rep variable_count x unbound_place 0 l }

-- and there is one such list
pub places_only : (σ : Binds) (cs bs : List ℕ) → PlacesOf σ cs → PlacesOf σ bs → cs ≡ bs
places_only σ cs bs a b = same_lists cs bs (a.sixteen ∙ sym b.sixteen) (λ x l. at_x x (rw a.sixteen at l) (bound_or_not x σ))
  where
    never : (x j : ℕ) → times x σ ≡ 0 → binds x j σ ≡ false
    never x j z = go (binds x j σ) refl
      where
        go : (c : Bool) → binds x j σ ≡ c → binds x j σ ≡ false
        go true q = absurd (omega (arith, binds_times x j σ q))
        go false q = q

    at_x : (x : ℕ) → x < variable_count → (times x σ ≡ 0) ⊎ ((j : ℕ) × (binds x j σ ≡ true)) → get_or cs x 0 ≡ get_or bs x 0
    at_x x l (inl z) = a.free x l (λ j. never x j z) ∙ sym (b.free x l (λ j. never x j z))
    at_x x l (inr (j, q)) = a.bound x j l q ∙ sym (b.bound x j l q)
