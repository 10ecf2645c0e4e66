use native.Mathlib.Omega.{arith}
use Rattle.leaf.proofs.LeafLaws.{next_none, next_low, next_high}
use Rattle.leaf.proofs.next_variable.Goals as goal

pub returns-then-left-eq0 : goal.returns-then-left-eq0
returns-then-left-eq0 c = next_none _ _ c.full.result c.minus-left.result c.full.ensures c.minus-left.ensures (omega arith) c.if-left-eq0.true

pub lowest-y-requires : goal.lowest-y-requires
lowest-y-requires c = omega (arith, c.if-left-eq0.false)

pub overflow_cast-y : goal.overflow_cast-y
overflow_cast-y c = omega (arith, c.lowest-y.ensures.small)

pub returns-then-y-lt-VARIABLE_COUNT : goal.returns-then-y-lt-VARIABLE_COUNT
returns-then-y-lt-VARIABLE_COUNT c = next_low _ _ c.full.result c.minus-left.result c.full.ensures c.minus-left.ensures _ c.lowest-y.ensures c.if-y-lt-VARIABLE_COUNT.true

pub returns : goal.returns
returns c = next_high _ _ c.full.result c.minus-left.result c.full.ensures c.minus-left.ensures _ c.lowest-y.ensures (omega arith) c.if-y-lt-VARIABLE_COUNT.false
