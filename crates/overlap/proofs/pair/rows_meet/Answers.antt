use native.Mathlib.Omega.{arith}
use Rattle.sets.proofs.HeadSets.{empty_is, some_is}
use Rattle.overlap.proofs.Lockstep.{begin, all_met, in_front, known_here, none_met, few_left, step}
use Rattle.overlap.proofs.pair.rows_meet.Goals as goal

pub loop-left-init : goal.loop-left-init
loop-left-init c = λ g. begin g

pub look-p-requires : goal.look-p-requires
look-p-requires c = (let l = c.loop-left in in_front c.requires l.x l.y l.left (c.loop-left.invariant c.requires) c.loop-left-test.true).see_a

pub look-q-requires : goal.look-q-requires
look-q-requires c = (let l = c.loop-left in in_front c.requires l.x l.y l.left (c.loop-left.invariant c.requires) c.loop-left-test.true).see_b

pub returns-then-is_empty : goal.returns-then-is_empty
returns-then-is_empty c = λ g. let l = c.loop-left in none_met g l.x l.y l.left (l.invariant g) c.loop-left-test.true c.look-p.result c.look-q.result c.join-c.result c.look-p.ensures c.look-q.ensures c.join-c.ensures (empty_is _ c.is_empty.ensures c.if-is_empty.true)

pub opens-w-requires : goal.opens-w-requires
opens-w-requires c = let l = c.loop-left in known_here c.requires l.x l.y l.left (c.loop-left.invariant c.requires) c.loop-left-test.true c.look-p.result c.look-q.result c.join-c.result c.look-p.ensures c.look-q.ensures c.join-c.ensures

pub overflow_add-left : goal.overflow_add-left
overflow_add-left c = omega (arith, (let l = c.loop-left in few_left c.requires l.x l.y l.left (c.loop-left.invariant c.requires) c.loop-left-test.true c.look-p.result c.look-q.result c.join-c.result c.look-p.ensures c.look-q.ensures c.join-c.ensures c.opens-w.result (some_is _ c.is_empty.ensures c.if-is_empty.false) c.opens-w.ensures))

pub next-x-requires : goal.next-x-requires
next-x-requires c = omega (arith, (let l = c.loop-left in few_left c.requires l.x l.y l.left (c.loop-left.invariant c.requires) c.loop-left-test.true c.look-p.result c.look-q.result c.join-c.result c.look-p.ensures c.look-q.ensures c.join-c.ensures c.opens-w.result (some_is _ c.is_empty.ensures c.if-is_empty.false) c.opens-w.ensures), (let l = c.loop-left in in_front c.requires l.x l.y l.left (c.loop-left.invariant c.requires) c.loop-left-test.true).wildcards_a, (let l = c.loop-left in in_front c.requires l.x l.y l.left (c.loop-left.invariant c.requires) c.loop-left-test.true).within_a)

pub next-y-requires : goal.next-y-requires
next-y-requires c = omega (arith, (let l = c.loop-left in few_left c.requires l.x l.y l.left (c.loop-left.invariant c.requires) c.loop-left-test.true c.look-p.result c.look-q.result c.join-c.result c.look-p.ensures c.look-q.ensures c.join-c.ensures c.opens-w.result (some_is _ c.is_empty.ensures c.if-is_empty.false) c.opens-w.ensures), (let l = c.loop-left in in_front c.requires l.x l.y l.left (c.loop-left.invariant c.requires) c.loop-left-test.true).wildcards_b, (let l = c.loop-left in in_front c.requires l.x l.y l.left (c.loop-left.invariant c.requires) c.loop-left-test.true).within_b)

pub loop-left-smaller : goal.loop-left-smaller
loop-left-smaller c = (let l = c.loop-left in step c.requires l.x l.y l.left (l.invariant c.requires) c.loop-left-test.true c.look-p.result c.look-q.result c.join-c.result c.look-p.ensures c.look-q.ensures c.join-c.ensures c.opens-w.result (some_is _ c.is_empty.ensures c.if-is_empty.false) c.opens-w.ensures c.next-x.result c.next-y.result c.next-x.ensures c.next-y.ensures).less

pub loop-left-preserved : goal.loop-left-preserved
loop-left-preserved c = λ g. (let l = c.loop-left in step g l.x l.y l.left (l.invariant g) c.loop-left-test.true c.look-p.result c.look-q.result c.join-c.result c.look-p.ensures c.look-q.ensures c.join-c.ensures c.opens-w.result (some_is _ c.is_empty.ensures c.if-is_empty.false) c.opens-w.ensures c.next-x.result c.next-y.result c.next-x.ensures c.next-y.ensures).now

pub returns : goal.returns
returns c = λ g. let l = c.loop-left in all_met g l.x l.y l.left (l.invariant g) (omega (arith, c.loop-left-test.false))
