-- The places that the matcher puts in.
use mathlib.Core.Path.{◌≡◌, refl, sym, ap, ◌∙◌}
use mathlib.Core.Bool.{Bool, true, false, not, cond, beq}
use mathlib.Core.List.{List, [], ◌∷◌, ◌++◌}
use Prim.Native.Nat.{ℕ, ◌+◌}
use lib.ListN.{length, set, get_or}
use Rattle.signature.specs.Value.{Values, size}
use Rattle.signature.proofs.Tests.{true≢false}
use Rattle.pattern.specs.Decide.{Out, fit, fail, swap, decide, decides, is_fit}
use Rattle.pattern.specs.Match.{Binds}
use Rattle.pattern.specs.Pattern.{Patterns, pattern_code}
use Rattle.pattern.specs.Places.{bind_all}
use Rattle.pattern.specs.Range.{within}
use Rattle.pattern.specs.Read.{is_range, form}
use Rattle.matching.specs.Bound.{bound, join}
use Rattle.matching.specs.Given.{Given, GivenTwo}
use Rattle.matching.proofs.FitSteps.{test, not_true, not_false}
use Rattle.matching.proofs.GivenSteps.{range_of, Uncons}

swapped : (o : Out) → bound (swap o) ≡ bound o
swapped (fit σ) = refl
swapped (fail σ) = refl

pub nothing_put : (σ : Binds) (o : List ℕ) → σ ≡ [] → o ≡ bind_all σ o
nothing_put σ o e = rw e

-- a range binds nothing
pub range_binds : {t ws bs : List ℕ} (g : Given t ws bs) (l : ℕ) → form (get_or ws 0 0) ≡ is_range → bound (decide g.pattern g.value l) ≡ []
range_binds {t} {ws} {bs} g l e = ap bound (range_of g e l) ∙ go (within (get_or ws 1 0) (get_or ws 2 0) (get_or bs 0 0))
  where
    go : (b : Bool) → bound (cond b (fit []) (fail [])) ≡ []
    go true = refl
    go false = refl

pub put : (a c : Out) (o o' : List ℕ) → c ≡ a → o' ≡ bind_all (bound a) o → o' ≡ bind_all (bound c) o
put a c o o' e h = rw e h

pub not_put : (a c : Out) (o o' : List ℕ) → c ≡ swap a → o' ≡ bind_all (bound a) o → o' ≡ bind_all (bound c) o
not_put a c o o' e h = rw (e, swapped a) h

pub var_put : (a : Out) (x l : ℕ) (o : List ℕ) → a ≡ fit ((x, l) ∷ []) → set o x l ≡ bind_all (bound a) o
var_put a x l o e = rw e

bind_append : (σ τ : Binds) (o : List ℕ) → bind_all (σ ++ τ) o ≡ bind_all τ (bind_all σ o)
bind_append [] τ o = refl
bind_append (b ∷ σ) τ o = bind_append σ τ (set o b.0 b.1)

-- which of two outcomes settles the outcome, or both
first_binds : (s : Bool) (a b : Out) → not (beq (is_fit a) s) ≡ true → bound (join s a b) ≡ bound a
first_binds true (fit σ) b h = true≢false (sym h)
first_binds true (fail σ) b h = refl
first_binds false (fit σ) (fit τ) h = refl
first_binds false (fit σ) (fail τ) h = refl
first_binds false (fail σ) b h = true≢false (sym h)

second_binds : (s : Bool) (a b : Out) → not (beq (is_fit a) s) ≡ false → not (beq (is_fit b) s) ≡ true → bound (join s a b) ≡ bound b
second_binds true (fit σ) (fit τ) h k = true≢false (sym k)
second_binds true (fit σ) (fail τ) h k = refl
second_binds true (fail σ) b h k = true≢false h
second_binds false (fit σ) b h k = true≢false h
second_binds false (fail σ) (fit τ) h k = refl
second_binds false (fail σ) (fail τ) h k = true≢false (sym k)

both_bind : (s : Bool) (a b : Out) → not (beq (is_fit a) s) ≡ false → not (beq (is_fit b) s) ≡ false → bound (join s a b) ≡ bound a ++ bound b
both_bind true (fit σ) (fit τ) h k = refl
both_bind true (fit σ) (fail τ) h k = true≢false k
both_bind true (fail σ) b h k = true≢false h
both_bind false (fit σ) b h k = true≢false h
both_bind false (fail σ) (fit τ) h k = true≢false k
both_bind false (fail σ) (fail τ) h k = refl

module _ (s : Bool) (a b : Out) (r : Bool) (e : r ≡ is_fit a) (o : List ℕ) where
  join_first : (o' : List ℕ) → not (beq r s) ≡ true → o' ≡ bind_all (bound a) o → o' ≡ bind_all (bound (join s a b)) o
  join_first o' h k = k ∙ ap (λ (σ : Binds). bind_all σ o) (sym (first_binds s a b (test (is_fit a) r s true e h)))

  join_second : (q : Bool) (o' : List ℕ) → not (beq r s) ≡ false → q ≡ is_fit b → not (beq q s) ≡ true → o' ≡ bind_all (bound b) o → o' ≡ bind_all (bound (join s a b)) o
  join_second q o' h f i k = k ∙ ap (λ (σ : Binds). bind_all σ o) (sym (second_binds s a b (test (is_fit a) r s false e h) (test (is_fit b) q s true f i)))

  join_both : (q : Bool) (o' o'' : List ℕ) → not (beq r s) ≡ false → q ≡ is_fit b → not (beq q s) ≡ false → o' ≡ bind_all (bound a) o → o'' ≡ bind_all (bound b) o' → o'' ≡ bind_all (bound (join s a b)) o
  join_both q o' o'' h f i k k' =
      k' ∙ ap (λ (x : List ℕ). bind_all (bound b) x) k ∙ sym (bind_append (bound a) (bound b) o)
      ∙ ap (λ (σ : Binds). bind_all σ o) (sym (both_bind s a b (test (is_fit a) r s false e h) (test (is_fit b) q s false f i)))

-- two patterns
module _ {t ws bs : List ℕ} (g : GivenTwo t ws bs) (s r : Bool) (l : ℕ) (o : List ℕ) (e : r ≡ is_fit (decide g.first g.value l)) where
  pub two_first : (o' : List ℕ) → not (beq r s) ≡ true → o' ≡ bind_all (bound (decide g.first g.value l)) o → o' ≡ bind_all (bound (join s (decide g.first g.value l) (decide g.second g.value l))) o
  two_first = join_first s (decide g.first g.value l) (decide g.second g.value l) r e o

  pub two_second : (q : Bool) (o' : List ℕ) → not (beq r s) ≡ false → q ≡ is_fit (decide g.second g.value l) → not (beq q s) ≡ true → o' ≡ bind_all (bound (decide g.second g.value l)) o → o' ≡ bind_all (bound (join s (decide g.first g.value l) (decide g.second g.value l))) o
  two_second = join_second s (decide g.first g.value l) (decide g.second g.value l) r e o

  pub two_both : (q : Bool) (o' o'' : List ℕ) → not (beq r s) ≡ false → q ≡ is_fit (decide g.second g.value l) → not (beq q s) ≡ false → o' ≡ bind_all (bound (decide g.first g.value l)) o → o'' ≡ bind_all (bound (decide g.second g.value l)) o' → o'' ≡ bind_all (bound (join s (decide g.first g.value l) (decide g.second g.value l))) o
  two_both = join_both s (decide g.first g.value l) (decide g.second g.value l) r e o

-- arguments
no_test : (r : Bool) → r ≡ false → not (beq r true) ≡ true
no_test r e = rw e

yes_test : (r : Bool) → r ≡ true → not (beq r true) ≡ false
yes_test r e = rw e

module _ {t ws bs : List ℕ} {n : ℕ} {ps : Patterns} {vs : Values} (u : Uncons t ws bs n ps vs) (r : Bool) (l : ℕ) (o : List ℕ) (e : r ≡ is_fit (decide u.one.pattern u.one.value l)) where
  pub all_first : (o' : List ℕ) → not r ≡ true → o' ≡ bind_all (bound (decide u.one.pattern u.one.value l)) o → o' ≡ bind_all (bound (decides ps vs l)) o
  all_first o' h k =
      let m = u.more _ _ refl refl in
      put _ (decides ps vs l) o o' (m.1 l) (join_first true (decide u.one.pattern u.one.value l) (decides m.0.patterns m.0.values (l + size u.one.value)) r e o o' (no_test r (not_true r h)) k)

  module _ (i j : ℕ) (ei : i ≡ length (pattern_code u.one.pattern)) (ej : j ≡ size u.one.value) (h : not r ≡ false) (q : Bool) (f : q ≡ is_fit (decides (u.more i j ei ej).0.patterns (u.more i j ei ej).0.values (l + j))) where
    pub all_rest : (o' : List ℕ) → q ≡ false → o' ≡ bind_all (bound (decides (u.more i j ei ej).0.patterns (u.more i j ei ej).0.values (l + j))) o → o' ≡ bind_all (bound (decides ps vs l)) o
    all_rest o' d k =
        let m = u.more i j ei ej in
        put _ (decides ps vs l) o o' (m.1 l) (join_second true (decide u.one.pattern u.one.value l) (decides m.0.patterns m.0.values (l + j)) r e o q o' (yes_test r (not_false r h)) f (no_test q d) k)

    pub all_both : (o' o'' : List ℕ) → q ≡ true → o' ≡ bind_all (bound (decide u.one.pattern u.one.value l)) o → o'' ≡ bind_all (bound (decides (u.more i j ei ej).0.patterns (u.more i j ei ej).0.values (l + j))) o' → o'' ≡ bind_all (bound (decides ps vs l)) o
    all_both o' o'' d k k' =
        let m = u.more i j ei ej in
        put _ (decides ps vs l) o o'' (m.1 l) (join_both true (decide u.one.pattern u.one.value l) (decides m.0.patterns m.0.values (l + j)) r e o q o' o'' (yes_test r (not_false r h)) f (yes_test q d) k k')
