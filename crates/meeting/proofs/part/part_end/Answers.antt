use native.Mathlib.Omega.{arith}
use Rattle.meeting.proofs.Ending.{start, few_left, turn, finished}
use Rattle.meeting.proofs.part.part_end.Goals as goal

pub loop-left-init : goal.loop-left-init
loop-left-init c = λ g. start g

pub cell_at-c-requires : goal.cell_at-c-requires
cell_at-c-requires c = (let l = c.loop-left in let g = c.requires in (turn g l.end l.left (l.invariant g) c.loop-left-test.true).see)

pub opens-requires : goal.opens-requires
opens-requires c = λ h. let l = c.loop-left in let g = c.requires in (turn g l.end l.left (l.invariant g) c.loop-left-test.true).long c.cell_at-c.result c.cell_at-c.ensures h

pub overflow_add-left : goal.overflow_add-left
overflow_add-left c = omega (arith, (let g = c.requires in few_left g _ _ (let l = c.loop-left in (turn g l.end l.left (l.invariant g) c.loop-left-test.true).past c.cell_at-c.result c.opens.result c.cell_at-c.ensures c.opens.ensures)))

pub overflow_add-end : goal.overflow_add-end
overflow_add-end c = omega (arith, (let g = c.requires in few_left g _ _ (let l = c.loop-left in (turn g l.end l.left (l.invariant g) c.loop-left-test.true).past c.cell_at-c.result c.opens.result c.cell_at-c.ensures c.opens.ensures)))

pub loop-left-smaller : goal.loop-left-smaller
loop-left-smaller c = omega (arith, (let l = c.loop-left in let g = c.requires in (turn g l.end l.left (l.invariant g) c.loop-left-test.true).see))

pub loop-left-preserved : goal.loop-left-preserved
loop-left-preserved c = λ g. (let l = c.loop-left in (turn g l.end l.left (l.invariant g) c.loop-left-test.true).past c.cell_at-c.result c.opens.result c.cell_at-c.ensures c.opens.ensures)

pub returns : goal.returns
returns c = λ g. let l = c.loop-left in finished g l.end l.left (l.invariant g) (omega (arith, c.loop-left-test.false))
