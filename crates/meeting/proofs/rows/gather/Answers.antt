use mathlib.Core.Path.{◌∙◌}
use native.Mathlib.Omega.{arith}
use lib.ListN.{length-set}
use Rattle.meeting.proofs.Gathering.{there, turn, finished}
use Rattle.meeting.proofs.rows.gather.Goals as goal

pub offset_bounds-a-from : goal.offset_bounds-a-from
offset_bounds-a-from c = omega (arith, let l = c.loop-from in let g = c.requires.0 in there g l.from l.q l.cur (l.invariant.1 g))

pub bounds-a-from : goal.bounds-a-from
bounds-a-from c = let l = c.loop-from in let g = c.requires.0 in there g l.from l.q l.cur (l.invariant.1 g)

pub offset_bounds-cur-q : goal.offset_bounds-cur-q
offset_bounds-cur-q c = omega (arith, (let l = c.loop-from in let g = c.requires.0 in (turn g l.from l.q l.cur (l.invariant.1 g) c.loop-from-test.true).few))

pub bounds-cur-q : goal.bounds-cur-q
bounds-cur-q c = omega (arith, (let l = c.loop-from in let g = c.requires.0 in (turn g l.from l.q l.cur (l.invariant.1 g) c.loop-from-test.true).few), c.loop-from.invariant.0)

pub overflow_add-q : goal.overflow_add-q
overflow_add-q c = omega (arith, (let l = c.loop-from in let g = c.requires.0 in (turn g l.from l.q l.cur (l.invariant.1 g) c.loop-from-test.true).few))

pub overflow_add-from-in-loop-from : goal.overflow_add-from-in-loop-from
overflow_add-from-in-loop-from c = omega (arith, (let l = c.loop-from in let g = c.requires.0 in (turn g l.from l.q l.cur (l.invariant.1 g) c.loop-from-test.true).on))

pub loop-from-preserved : goal.loop-from-preserved
loop-from-preserved c = let l = c.loop-from in (length-set l.cur l.q _ ∙ l.invariant.0, λ g. (turn g l.from l.q l.cur (l.invariant.1 g) c.loop-from-test.true).now (omega (arith, (let l = c.loop-from in let g = c.requires.0 in (turn g l.from l.q l.cur (l.invariant.1 g) c.loop-from-test.true).few), l.invariant.0)))

pub returns : goal.returns
returns c = λ g. let l = c.loop-from in finished g l.from l.q l.cur (l.invariant.1 g) (omega (arith, c.loop-from-test.false))
