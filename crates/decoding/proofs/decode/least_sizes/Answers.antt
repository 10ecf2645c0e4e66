use mathlib.Core.Path.{sym, subst}
use native.Mathlib.Omega.{arith}
use Rattle.decoding.proofs.Fewest.{Lowering, lowering_start, lowering_next, lowering_end}
use Rattle.decoding.proofs.decode.least_sizes.Goals as goal

pub loop-kinds-init : goal.loop-kinds-init
loop-kinds-init c = subst (Lowering c.args.t.now c.args.kinds) (sym c.requires.3) (lowering_start _ _)

pub lower_sizes-lowered-requires : goal.lower_sizes-lowered-requires
lower_sizes-lowered-requires c = (c.requires.0, c.requires.1, c.requires.2, c.loop-kinds.invariant.sizes)

pub returns-then-lowered-eq0 : goal.returns-then-lowered-eq0
returns-then-lowered-eq0 c = lowering_end _ _ _ _ _ c.loop-kinds.invariant c.lower_sizes-lowered.ensures c.if-lowered-eq0.true

pub loop-kinds-smaller : goal.loop-kinds-smaller
loop-kinds-smaller c = c.lower_sizes-lowered.ensures.fewer (omega arith)

pub loop-kinds-preserved : goal.loop-kinds-preserved
loop-kinds-preserved c = lowering_next _ _ _ _ _ c.loop-kinds.invariant c.lower_sizes-lowered.ensures
