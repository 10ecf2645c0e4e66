-- The paper's theorem 3: not both.
use mathlib.Core.Path.{sym, ◌∙◌}
use Prim.Native.Nat.{ℕ}
use Rattle.signature.specs.Value.{Value, Values}
use Rattle.signature.proofs.Tests.{true≢false}
use Rattle.pattern.specs.Match.{Binds, Fits, Fails, fits_not, fails_not, fits_and, fails_left, fails_right, fits_left, fails_or, fits_right, fits_con, fits_range, fails_head, fails_arg, fails_range, AllFit, SomeFails, all_cons, some_here, some_there}
use Rattle.pattern.specs.Pattern.{Pattern, neg, and, or, head, range, Patterns, pcons, absurd_pat, var, wild, pnil}

-- the paper's Theorem 3: not both
mutual
  pub exclusive : (p : Pattern) {v : Value} {i : ℕ} {σ τ : Binds} → Fits p v i σ → Fails p v i τ → ⊥
  exclusive wild _ bad = elim bad [ ]
  exclusive absurd_pat bad _ = elim bad [ ]
  exclusive (var _) _ bad = elim bad [ ]
  exclusive (neg p) (fits_not f) (fails_not g) = exclusive p g f
  exclusive (and p q) (fits_and f g) (fails_left h) = exclusive p f h
  exclusive (and p q) (fits_and f g) (fails_right h) = exclusive q g h
  exclusive (or p q) (fits_left f) (fails_or g h) = exclusive p f g
  exclusive (or p q) (fits_right f) (fails_or g h) = exclusive q f h
  exclusive (head c ps) (fits_con e f) (fails_head n) = n e
  exclusive (head c ps) (fits_con e f) (fails_arg e' g) = exclusive_all ps f g
  exclusive (range low high) (fits_range e) (fails_range e') = true≢false (sym e ∙ e')

  exclusive_all : (ps : Patterns) {vs : Values} {i : ℕ} {σ τ : Binds} → AllFit ps vs i σ → SomeFails ps vs i τ → ⊥
  exclusive_all pnil _ bad = elim bad [ ]
  exclusive_all (pcons p ps) (all_cons f g) (some_here h) = exclusive p f h
  exclusive_all (pcons p ps) (all_cons f g) (some_there h) = exclusive_all ps g h
