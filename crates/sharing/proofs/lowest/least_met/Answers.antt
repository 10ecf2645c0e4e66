use mathlib.Core.Path.{subst}
use Prim.Native.Nat.{ℕ, ◌-◌}
use native.Mathlib.Omega.{arith}
use Rattle.sharing.specs.Lowest.{LeastMet}
use Rattle.sharing.proofs.Lows.{least_start, least_more}
use Rattle.sharing.proofs.lowest.least_met.Goals as goal

pub loop-i-init : goal.loop-i-init
loop-i-init c = (omega arith, c.requires.0, least_start _ _)

pub first_met-j-requires : goal.first_met-j-requires
first_met-j-requires c = (omega (arith, c.loop-i-test.true, c.requires.1), omega (arith, c.loop-i-test.true, c.requires.2))

pub loop-i-preserved : goal.loop-i-preserved
loop-i-preserved c = let l = c.loop-i in (omega (arith, l.invariant.0), omega (arith, c.loop-i-test.true), least_more _ _ l.i l.least c.first_met-j.result c.min-least.result l.invariant.0 l.invariant.2 c.first_met-j.ensures c.min-least.ensures)

pub returns : goal.returns
returns c = let l = c.loop-i in subst (λ (z : ℕ). LeastMet c.args.m.now c.args.low z l.least) (omega (arith, c.loop-i-test.false, l.invariant.1)) l.invariant.2
