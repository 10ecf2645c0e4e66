use native.Mathlib.Omega.{arith}
use Rattle.store.proofs.FindFacts.{begin, now_step, now_end}
use Rattle.store.proofs.find.end.Goals as goal

pub bounds-table-0 : goal.bounds-table-0
bounds-table-0 c = omega (arith, c.requires.1.long)

pub loop-i-init : goal.loop-i-init
loop-i-init c = (omega arith, c.requires.1.long, λ rs h. begin rs)

pub bounds-table-at : goal.bounds-table-at
bounds-table-at c = omega (arith, (now_step c.requires.1 c.loop-i.i c.loop-i.at (c.loop-i.invariant.2 c.requires.0 c.requires.1) c.loop-i-test.true).0)

pub overflow_cast-len : goal.overflow_cast-len
overflow_cast-len c = omega (arith, (now_step c.requires.1 c.loop-i.i c.loop-i.at (c.loop-i.invariant.2 c.requires.0 c.requires.1) c.loop-i-test.true).0)

pub overflow_add-at : goal.overflow_add-at
overflow_add-at c = omega (arith, (now_step c.requires.1 c.loop-i.i c.loop-i.at (c.loop-i.invariant.2 c.requires.0 c.requires.1) c.loop-i-test.true).0)

pub overflow_add-at-in-loop-i : goal.overflow_add-at-in-loop-i
overflow_add-at-in-loop-i c = omega (arith, (now_step c.requires.1 c.loop-i.i c.loop-i.at (c.loop-i.invariant.2 c.requires.0 c.requires.1) c.loop-i-test.true).0)

pub loop-i-preserved : goal.loop-i-preserved
loop-i-preserved c = ((now_step c.requires.1 c.loop-i.i c.loop-i.at (c.loop-i.invariant.2 c.requires.0 c.requires.1) c.loop-i-test.true).0, c.loop-i.invariant.1, λ rs h. (now_step h c.loop-i.i c.loop-i.at (c.loop-i.invariant.2 rs h) c.loop-i-test.true).1)

pub returns : goal.returns
returns c = λ rs h. now_end h c.loop-i.i c.loop-i.at (c.loop-i.invariant.2 rs h) c.loop-i-test.false
