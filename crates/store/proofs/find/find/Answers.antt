use native.Mathlib.Omega.{arith}
use Rattle.store.proofs.FindFacts.{seek_begin, seek_within, seek_next, seek_held, seek_free, seek_end}
use Rattle.store.proofs.find.find.Goals as goal

pub bounds-table-0 : goal.bounds-table-0
bounds-table-0 c = omega (arith, c.requires.1.long)

pub loop-i-init : goal.loop-i-init
loop-i-init c = (omega arith, c.requires.1.long, λ rs h. seek_begin c.args.number rs)

pub bounds-table-at : goal.bounds-table-at
bounds-table-at c = omega (arith, seek_within c.requires.1 c.args.number c.loop-i.i c.loop-i.at (c.loop-i.invariant.2 c.requires.0 c.requires.1) c.loop-i-test.true)

pub returns-then-m-number : goal.returns-then-m-number
returns-then-m-number c = λ rs h. seek_held h c.args.number c.loop-i.i c.loop-i.at (c.loop-i.invariant.2 rs h) c.loop-i-test.true c.if-m-number.true

pub returns-then-number-m : goal.returns-then-number-m
returns-then-number-m c = λ rs h. seek_free h c.args.number c.loop-i.i c.loop-i.at (c.loop-i.invariant.2 rs h) c.loop-i-test.true c.if-number-m.true

pub bounds-table-at-in-loop-i : goal.bounds-table-at-in-loop-i
bounds-table-at-in-loop-i c = omega (arith, seek_within c.requires.1 c.args.number c.loop-i.i c.loop-i.at (c.loop-i.invariant.2 c.requires.0 c.requires.1) c.loop-i-test.true)

pub overflow_cast-at : goal.overflow_cast-at
overflow_cast-at c = omega (arith, seek_within c.requires.1 c.args.number c.loop-i.i c.loop-i.at (c.loop-i.invariant.2 c.requires.0 c.requires.1) c.loop-i-test.true)

pub overflow_add-at-in-loop-i-2 : goal.overflow_add-at-in-loop-i-2
overflow_add-at-in-loop-i-2 c = omega (arith, seek_within c.requires.1 c.args.number c.loop-i.i c.loop-i.at (c.loop-i.invariant.2 c.requires.0 c.requires.1) c.loop-i-test.true)

pub loop-i-preserved : goal.loop-i-preserved
loop-i-preserved c = (seek_within c.requires.1 c.args.number c.loop-i.i c.loop-i.at (c.loop-i.invariant.2 c.requires.0 c.requires.1) c.loop-i-test.true, c.loop-i.invariant.1, λ rs h. seek_next h c.args.number c.loop-i.i c.loop-i.at (c.loop-i.invariant.2 rs h) c.loop-i-test.true (omega arith))

pub returns : goal.returns
returns c = λ rs h. seek_end h c.args.number c.loop-i.i c.loop-i.at (c.loop-i.invariant.2 rs h) c.loop-i-test.false
