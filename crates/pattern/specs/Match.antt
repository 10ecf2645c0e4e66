-- 01, Patterns: when a pattern fits a value and when it fails; the paper, section 3. This is demand 2's relation.
use Rattle.std.specs.Prelude.{◌≡◌, List, ◌∷◌, [], ◌++◌, true, false, ℕ, suc, ◌+◌}
use Rattle.signature.specs.Value.{Value, Values, con, vnil, size, vcons}
use Rattle.pattern.specs.Range.{within}
use Rattle.pattern.specs.Pattern.{Pattern, var, wild, neg, and, or, Patterns, head, absurd_pat, range, pnil, pcons}

-- "bindings (variable, place)"
abbrev pub Binds : Type 0
Binds = List (ℕ × ℕ)

-- p fits, or fails on, the value v that begins at place i, with these bindings.
-- "Variable: always fits, binding its place; never fails. Wildcard fits, absurd fails, both binding nothing."
-- "Not: fits when its part fails, fails when its part fits, bindings kept."
-- "And: fits when both fit, bindings joined; fails when either fails, with that one's bindings. Or: the reverse."
-- "Constructor: fits when the head is equal and all arguments fit, bindings joined; fails on another head with none, or when some argument fails, with that one's bindings."
-- 02, job 1: "a range fits the levels in it, fails on all others, binds nothing"
mutual
  pub data Fits : Pattern → Value → ℕ → Binds → Type 0 where
    fits_var : {x i : ℕ} {v : Value} → Fits (var x) v i ((x, i) ∷ [])
    fits_wild : {i : ℕ} {v : Value} → Fits wild v i []
    fits_not : {p : Pattern} {v : Value} {i : ℕ} {σ : Binds} → Fails p v i σ → Fits (neg p) v i σ
    fits_and : {p q : Pattern} {v : Value} {i : ℕ} {σ τ : Binds} → Fits p v i σ → Fits q v i τ → Fits (and p q) v i (σ ++ τ)
    fits_left : {p q : Pattern} {v : Value} {i : ℕ} {σ : Binds} → Fits p v i σ → Fits (or p q) v i σ
    fits_right : {p q : Pattern} {v : Value} {i : ℕ} {σ : Binds} → Fits q v i σ → Fits (or p q) v i σ
    fits_con : {c d i : ℕ} {ps : Patterns} {vs : Values} {σ : Binds} → c ≡ d → AllFit ps vs (suc i) σ → Fits (head c ps) (con d vs) i σ
    fits_range : {low high d i : ℕ} {vs : Values} → within low high d ≡ true → Fits (range low high) (con d vs) i []

  pub data Fails : Pattern → Value → ℕ → Binds → Type 0 where
    fails_absurd : {i : ℕ} {v : Value} → Fails absurd_pat v i []
    fails_not : {p : Pattern} {v : Value} {i : ℕ} {σ : Binds} → Fits p v i σ → Fails (neg p) v i σ
    fails_left : {p q : Pattern} {v : Value} {i : ℕ} {σ : Binds} → Fails p v i σ → Fails (and p q) v i σ
    fails_right : {p q : Pattern} {v : Value} {i : ℕ} {σ : Binds} → Fails q v i σ → Fails (and p q) v i σ
    fails_or : {p q : Pattern} {v : Value} {i : ℕ} {σ τ : Binds} → Fails p v i σ → Fails q v i τ → Fails (or p q) v i (σ ++ τ)
    fails_head : {c d i : ℕ} {ps : Patterns} {vs : Values} → ¬ (c ≡ d) → Fails (head c ps) (con d vs) i []
    fails_arg : {c d i : ℕ} {ps : Patterns} {vs : Values} {σ : Binds} → c ≡ d → SomeFails ps vs (suc i) σ → Fails (head c ps) (con d vs) i σ
    fails_range : {low high d i : ℕ} {vs : Values} → within low high d ≡ false → Fails (range low high) (con d vs) i []

  pub data AllFit : Patterns → Values → ℕ → Binds → Type 0 where
    all_nil : {i : ℕ} → AllFit pnil vnil i []
    all_cons : {p : Pattern} {ps : Patterns} {v : Value} {vs : Values} {i : ℕ} {σ τ : Binds} → Fits p v i σ → AllFit ps vs (i + size v) τ → AllFit (pcons p ps) (vcons v vs) i (σ ++ τ)

  pub data SomeFails : Patterns → Values → ℕ → Binds → Type 0 where
    some_here : {p : Pattern} {ps : Patterns} {v : Value} {vs : Values} {i : ℕ} {σ : Binds} → Fails p v i σ → SomeFails (pcons p ps) (vcons v vs) i σ
    some_there : {p : Pattern} {ps : Patterns} {v : Value} {vs : Values} {i : ℕ} {σ : Binds} → SomeFails ps vs (i + size v) σ → SomeFails (pcons p ps) (vcons v vs) i σ
