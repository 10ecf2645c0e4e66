-- The decision which of Fits and Fails holds, with bindings. Laws says that it is one of them.
use Rattle.std.specs.Prelude.{◌++◌, ◌∷◌, [], cond, Bool, true, false, ℕ, suc, ◌+◌, eqb}
use Rattle.signature.specs.Value.{Value, con, Values, vnil, vcons, size}
use Rattle.pattern.specs.Match.{Binds}
use Rattle.pattern.specs.Range.{within}
use Rattle.pattern.specs.Pattern.{Pattern, var, wild, absurd_pat, neg, and, or, head, range, Patterns, pnil, pcons}

-- fits, or fails, with these bindings
pub data Out : Type 0 where
  fit fail : Binds → Out

-- not
abbrev pub swap : Out → Out
swap (fit σ) = fail σ
swap (fail σ) = fit σ

-- and
abbrev pub both : Out → Out → Out
both (fit σ) (fit τ) = fit (σ ++ τ)
both (fit σ) (fail τ) = fail τ
both (fail σ) o = fail σ

-- the outcome for the value that begins at place i
abbrev mutual
  pub decide : Pattern → Value → ℕ → Out
  decide (var x) v i = fit ((x, i) ∷ [])
  decide wild v i = fit []
  decide absurd_pat v i = fail []
  decide (neg p) v i = swap (decide p v i)
  decide (and p q) v i = both (decide p v i) (decide q v i)
  decide (or p q) v i = swap (both (swap (decide p v i)) (swap (decide q v i)))
  decide (head c ps) (con d vs) i = cond (eqb c d) (decides ps vs (suc i)) (fail [])
  decide (range low high) (con d vs) i = cond (within low high d) (fit []) (fail [])

  pub decides : Patterns → Values → ℕ → Out
  decides pnil vs i = fit []
  decides (pcons p ps) vnil i = fail []
  decides (pcons p ps) (vcons v vs) i = both (decide p v i) (decides ps vs (i + size v))

-- the outcome is a fit
abbrev pub is_fit : Out → Bool
is_fit (fit σ) = true
is_fit (fail σ) = false
