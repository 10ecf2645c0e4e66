-- The answers of the matcher, yes or no.
use mathlib.Core.Path.{◌≡◌, refl, sym, ap, ◌∙◌}
use mathlib.Core.Bool.{Bool, true, false, not, beq}
use mathlib.Core.List.{List, [], ◌∷◌}
use Prim.Native.Nat.{ℕ, ◌+◌}
use lib.ListN.{length, get_or}
use Rattle.signature.specs.Value.{Values, size}
use Rattle.signature.proofs.Tests.{true≢false}
use Rattle.pattern.specs.Decide.{Out, fit, fail, swap, both, decide, decides, is_fit}
use Rattle.pattern.specs.Pattern.{Pattern, Patterns, pattern_code}
use Rattle.pattern.specs.Range.{within}
use Rattle.pattern.specs.Read.{is_wild, is_absurd, is_var, is_range, form}
use Rattle.pattern.proofs.Decided.{fit_swap, fit_when}
use Rattle.matching.specs.Bound.{join}
use Rattle.matching.specs.Given.{Given}
use Rattle.matching.proofs.GivenSteps.{seen, range_of, Uncons}

-- leaves
module _ {t ws bs : List ℕ} (g : Given t ws bs) (l : ℕ) where
  pub wild_fits : form (get_or ws 0 0) ≡ is_wild → decide g.pattern g.value l ≡ fit []
  wild_fits e = ap (λ (x : Pattern). decide x g.value l) (seen g is_wild e)

  pub absurd_fails : form (get_or ws 0 0) ≡ is_absurd → decide g.pattern g.value l ≡ fail []
  absurd_fails e = ap (λ (x : Pattern). decide x g.value l) (seen g is_absurd e)

  pub var_fits : (x : ℕ) → form (get_or ws 0 0) ≡ is_var x → decide g.pattern g.value l ≡ fit ((x, l) ∷ [])
  var_fits x e = ap (λ (y : Pattern). decide y g.value l) (seen g (is_var x) e)

-- a range
pub range_answer : {t ws bs : List ℕ} (g : Given t ws bs) (e : form (get_or ws 0 0) ≡ is_range) (l : ℕ) (r : Bool) → r ≡ within (get_or ws 1 0) (get_or ws 2 0) (get_or bs 0 0) → r ≡ is_fit (decide g.pattern g.value l)
range_answer {t} {ws} {bs} g e l r h = h ∙ sym (fit_when (within (get_or ws 1 0) (get_or ws 2 0) (get_or bs 0 0))) ∙ ap is_fit (sym (range_of g e l))

-- the answer to an outcome that is another
pub answer : (a c : Out) (r : Bool) → c ≡ a → r ≡ is_fit a → r ≡ is_fit c
answer a c r e h = h ∙ ap is_fit (sym e)

pub not_answer : (a c : Out) (r : Bool) → c ≡ swap a → r ≡ is_fit a → not r ≡ is_fit c
not_answer a c r e h = ap not h ∙ sym (fit_swap a) ∙ ap is_fit (sym e)

pub not_true : (a : Bool) → not a ≡ true → a ≡ false
not_true true e = sym e
not_true false e = refl

pub not_false : (a : Bool) → not a ≡ false → a ≡ true
not_false true e = refl
not_false false e = sym e

-- which of two patterns settles the answer
first_settles : (s : Bool) (a b : Out) → not (beq (is_fit a) s) ≡ true → is_fit a ≡ is_fit (join s a b)
first_settles true (fit σ) b h = true≢false (sym h)
first_settles true (fail σ) b h = refl
first_settles false (fit σ) (fit τ) h = refl
first_settles false (fit σ) (fail τ) h = refl
first_settles false (fail σ) b h = true≢false (sym h)

second_settles : (s : Bool) (a b : Out) → not (beq (is_fit a) s) ≡ false → is_fit b ≡ is_fit (join s a b)
second_settles true (fit σ) (fit τ) h = refl
second_settles true (fit σ) (fail τ) h = refl
second_settles true (fail σ) b h = true≢false h
second_settles false (fit σ) b h = true≢false h
second_settles false (fail σ) (fit τ) h = refl
second_settles false (fail σ) (fail τ) h = refl

pub test : (a r s t : Bool) → r ≡ a → not (beq r s) ≡ t → not (beq a s) ≡ t
test a r s t e h = rw (sym e) h

pub first_answers : (s r : Bool) (a b : Out) → r ≡ is_fit a → not (beq r s) ≡ true → r ≡ is_fit (join s a b)
first_answers s r a b e h = e ∙ first_settles s a b (test (is_fit a) r s true e h)

pub second_answers : (s r q : Bool) (a b : Out) → r ≡ is_fit a → not (beq r s) ≡ false → q ≡ is_fit b → q ≡ is_fit (join s a b)
second_answers s r q a b e h f = f ∙ second_settles s a b (test (is_fit a) r s false e h)

-- arguments
one_fails : (a b : Out) → is_fit a ≡ false → false ≡ is_fit (both a b)
one_fails (fit σ) b e = true≢false e
one_fails (fail σ) b e = refl

one_passes : (a b : Out) → is_fit a ≡ true → is_fit b ≡ is_fit (both a b)
one_passes (fit σ) (fit τ) e = refl
one_passes (fit σ) (fail τ) e = refl
one_passes (fail σ) b e = true≢false (sym e)

module _ {t ws bs : List ℕ} {n : ℕ} {ps : Patterns} {vs : Values} (u : Uncons t ws bs n ps vs) where
  pub all_stop : (r : Bool) (l : ℕ) → r ≡ is_fit (decide u.one.pattern u.one.value l) → not r ≡ true → false ≡ is_fit (decides ps vs l)
  all_stop r l e h =
      let m = u.more _ _ refl refl in
      one_fails (decide u.one.pattern u.one.value l) (decides m.0.patterns m.0.values (l + size u.one.value)) (sym e ∙ not_true r h) ∙ ap is_fit (sym (m.1 l))

  pub all_go : (r q : Bool) (l i j : ℕ) (ei : i ≡ length (pattern_code u.one.pattern)) (ej : j ≡ size u.one.value) → r ≡ is_fit (decide u.one.pattern u.one.value l) → not r ≡ false → q ≡ is_fit (decides (u.more i j ei ej).0.patterns (u.more i j ei ej).0.values (l + j)) → q ≡ is_fit (decides ps vs l)
  all_go r q l i j ei ej e h f =
      let m = u.more i j ei ej in
      f ∙ one_passes (decide u.one.pattern u.one.value l) (decides m.0.patterns m.0.values (l + j)) (sym e ∙ not_false r h) ∙ ap is_fit (sym (m.1 l))
