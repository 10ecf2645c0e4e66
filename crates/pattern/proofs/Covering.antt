-- A fit of a linear-plus pattern binds every variable of E, a failure of a linear-minus one every variable of O (with Once: exactly once).
use mathlib.Core.Path.{◌≡◌, refl, sym}
use mathlib.Core.List.{List, ◌++◌}
use mathlib.Core.Bool.{Bool, true, false, ◌&&◌, ◌||◌}
use Prim.Native.Nat.{ℕ, ◌+◌, ◌≤◌}
use native.Mathlib.Omega.{arith}
use lib.Dec.{eqb}
use Rattle.signature.specs.Lists.{memb, all, is_empty}
use Rattle.signature.specs.Value.{Value, Values}
use Rattle.signature.proofs.Booleans.{and_left, and_right}
use Rattle.signature.proofs.Members.{memb_append, memb_empty, all_memb}
use Rattle.signature.proofs.Tests.{true≢false}
use Rattle.pattern.specs.Linear.{E, O, E_all, O_all, disjoint, same_set, linear_plus, linear_minus, all_plus}
use Rattle.pattern.specs.Match.{Binds, Fits, fits_var, fits_wild, fits_not, fits_and, fits_left, fits_right, fits_con, fits_range, Fails, fails_absurd, fails_not, fails_left, fails_right, fails_or, fails_head, fails_arg, fails_range, AllFit, all_nil, all_cons}
use Rattle.pattern.specs.Pattern.{Pattern, var, wild, absurd_pat, neg, and, or, head, range, Patterns, pnil, pcons}
use Rattle.pattern.specs.Places.{tick, times}
use Rattle.pattern.proofs.Once.{times_append}
use Rattle.pattern.proofs.Unique.{minus_empty}

one_back : (b : Bool) → tick (b || false) ≤ tick b + 0
one_back true = omega arith
one_back false = omega arith

tick_either : (a b : Bool) → tick (a || b) ≤ tick a + tick b
tick_either true b = omega arith
tick_either false b = omega arith

tick_imp : (a b : Bool) → (a ≡ true → b ≡ true) → tick a ≤ tick b
tick_imp true true f = omega arith
tick_imp true false f = true≢false (sym (f refl))
tick_imp false b f = omega arith

or_imp : (a b : Bool) → (b ≡ true → a ≡ true) → tick (a || b) ≤ tick a
or_imp true b f = omega arith
or_imp false b f = tick_imp b false f

or_imp_right : (a b : Bool) → (a ≡ true → b ≡ true) → tick (a || b) ≤ tick b
or_imp_right true b f = tick_imp true b f
or_imp_right false b f = omega arith

pub tick_append : (x : ℕ) (xs ys : List ℕ) → tick (memb x (xs ++ ys)) ≤ tick (memb x xs) + tick (memb x ys)
tick_append x xs ys = rw (memb_append x xs ys) (tick_either (memb x xs) (memb x ys))

same_left : (x : ℕ) (xs ys : List ℕ) → same_set xs ys ≡ true → tick (memb x (xs ++ ys)) ≤ tick (memb x xs)
same_left x xs ys e = rw (memb_append x xs ys) (or_imp (memb x xs) (memb x ys) (λ m. all_memb (λ y. memb y xs) x ys (and_right (all (λ z. memb z ys) xs) (all (λ y. memb y xs) ys) e) m))

same_right : (x : ℕ) (xs ys : List ℕ) → same_set xs ys ≡ true → tick (memb x (xs ++ ys)) ≤ tick (memb x ys)
same_right x xs ys e = rw (memb_append x xs ys) (or_imp_right (memb x xs) (memb x ys) (λ m. all_memb (λ z. memb z ys) x xs (and_left (all (λ z. memb z ys) xs) (all (λ y. memb y xs) ys) e) m))

none_of : (x : ℕ) (xs : List ℕ) (n : ℕ) → is_empty xs ≡ true → tick (memb x xs) ≤ n
none_of x xs n e = rw (memb_empty x xs e) (omega arith)

mutual
  pub fit_bound : (p : Pattern) {v : Value} {i : ℕ} {σ : Binds} → linear_plus p ≡ true → Fits p v i σ → (x : ℕ) → tick (memb x (E p)) ≤ times x σ
  fit_bound absurd_pat l bad x = elim bad [ ]
  fit_bound (var y) l fits_var x = one_back (eqb x y)
  fit_bound wild l fits_wild x = omega arith
  fit_bound (neg p) l (fits_not f) x = fail_bound p l f x
  fit_bound (and p q) l (fits_and {σ = σ} {τ = τ} f g) x =
      let a : (linear_plus p && linear_plus q) ≡ true = and_left (linear_plus p && linear_plus q) (disjoint (E p) (E q)) l in
      omega (arith, times_append x σ τ, tick_append x (E p) (E q), fit_bound p (and_left (linear_plus p) (linear_plus q) a) f x, fit_bound q (and_right (linear_plus p) (linear_plus q) a) g x)
  fit_bound (or p q) l (fits_left f) x =
      let a : (linear_plus p && linear_plus q) ≡ true = and_left (linear_plus p && linear_plus q) (same_set (E p) (E q)) l in
      omega (arith, fit_bound p (and_left (linear_plus p) (linear_plus q) a) f x, same_left x (E p) (E q) (and_right (linear_plus p && linear_plus q) (same_set (E p) (E q)) l))
  fit_bound (or p q) l (fits_right f) x =
      let a : (linear_plus p && linear_plus q) ≡ true = and_left (linear_plus p && linear_plus q) (same_set (E p) (E q)) l in
      omega (arith, fit_bound q (and_right (linear_plus p) (linear_plus q) a) f x, same_right x (E p) (E q) (and_right (linear_plus p && linear_plus q) (same_set (E p) (E q)) l))
  fit_bound (head c ps) l (fits_con e f) x = all_bound ps l f x
  fit_bound (range low high) l (fits_range e) x = omega arith

  pub fail_bound : (p : Pattern) {v : Value} {i : ℕ} {σ : Binds} → linear_minus p ≡ true → Fails p v i σ → (x : ℕ) → tick (memb x (O p)) ≤ times x σ
  fail_bound wild l bad x = elim bad [ ]
  fail_bound (var _) l bad x = elim bad [ ]
  fail_bound absurd_pat l fails_absurd x = omega arith
  fail_bound (neg p) l (fails_not f) x = fit_bound p l f x
  fail_bound (or p q) l (fails_or {σ = σ} {τ = τ} f g) x =
      let a : (linear_minus p && linear_minus q) ≡ true = and_left (linear_minus p && linear_minus q) (disjoint (O p) (O q)) l in
      omega (arith, times_append x σ τ, tick_append x (O p) (O q), fail_bound p (and_left (linear_minus p) (linear_minus q) a) f x, fail_bound q (and_right (linear_minus p) (linear_minus q) a) g x)
  fail_bound (and p q) l (fails_left f) x =
      let a : (linear_minus p && linear_minus q) ≡ true = and_left (linear_minus p && linear_minus q) (same_set (O p) (O q)) l in
      omega (arith, fail_bound p (and_left (linear_minus p) (linear_minus q) a) f x, same_left x (O p) (O q) (and_right (linear_minus p && linear_minus q) (same_set (O p) (O q)) l))
  fail_bound (and p q) l (fails_right f) x =
      let a : (linear_minus p && linear_minus q) ≡ true = and_left (linear_minus p && linear_minus q) (same_set (O p) (O q)) l in
      omega (arith, fail_bound q (and_right (linear_minus p) (linear_minus q) a) f x, same_right x (O p) (O q) (and_right (linear_minus p && linear_minus q) (same_set (O p) (O q)) l))
  fail_bound (head c ps) l (fails_head n) x = none_of x (O_all ps) _ (minus_empty ps l)
  fail_bound (head c ps) l (fails_arg e f) x = none_of x (O_all ps) _ (minus_empty ps l)
  fail_bound (range low high) l (fails_range e) x = omega arith

  all_bound : (ps : Patterns) {vs : Values} {i : ℕ} {σ : Binds} → all_plus ps ≡ true → AllFit ps vs i σ → (x : ℕ) → tick (memb x (E_all ps)) ≤ times x σ
  all_bound pnil l all_nil x = omega arith
  all_bound (pcons p ps) l (all_cons {σ = σ} {τ = τ} f g) x =
      let a : (linear_plus p && all_plus ps) ≡ true = and_left (linear_plus p && all_plus ps) (disjoint (E p) (E_all ps)) l in
      omega (arith, times_append x σ τ, tick_append x (E p) (E_all ps), fit_bound p (and_left (linear_plus p) (all_plus ps) a) f x, all_bound ps (and_right (linear_plus p) (all_plus ps) a) g x)
