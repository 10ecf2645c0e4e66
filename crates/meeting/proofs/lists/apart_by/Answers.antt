use native.Mathlib.Omega.{arith}
use Rattle.meeting.proofs.Listing.{apart_turn, apart_end}
use Rattle.meeting.proofs.lists.apart_by.Goals as goal

pub overflow_add-from : goal.overflow_add-from
overflow_add-from c = omega (arith, (let l = c.loop-j in apart_turn c.requires.0 c.args.m.now c.requires.1 l.at l.low l._j (l.invariant.1 c.requires.0 c.requires.1) c.loop-j-test.true).there)

pub offset_bounds-a-from : goal.offset_bounds-a-from
offset_bounds-a-from c = omega (arith, (let l = c.loop-j in apart_turn c.requires.0 c.args.m.now c.requires.1 l.at l.low l._j (l.invariant.1 c.requires.0 c.requires.1) c.loop-j-test.true).there)

pub slice_bounds-count-count : goal.slice_bounds-count-count
slice_bounds-count-count c = omega (arith, (let l = c.loop-j in apart_turn c.requires.0 c.args.m.now c.requires.1 l.at l.low l._j (l.invariant.1 c.requires.0 c.requires.1) c.loop-j-test.true).there)

pub slice_bounds-count-start : goal.slice_bounds-count-start
slice_bounds-count-start c = omega (arith, (let l = c.loop-j in apart_turn c.requires.0 c.args.m.now c.requires.1 l.at l.low l._j (l.invariant.1 c.requires.0 c.requires.1) c.loop-j-test.true).there)

pub count-requires : goal.count-requires
count-requires c = (let l = c.loop-j in apart_turn c.requires.0 c.args.m.now c.requires.1 l.at l.low l._j (l.invariant.1 c.requires.0 c.requires.1) c.loop-j-test.true).first

pub overflow_add-high : goal.overflow_add-high
overflow_add-high c = omega (arith, (let l = c.loop-j in apart_turn c.requires.0 c.args.m.now c.requires.1 l.at l.low l._j (l.invariant.1 c.requires.0 c.requires.1) c.loop-j-test.true).few, c.count.ensures (let l = c.loop-j in apart_turn c.requires.0 c.args.m.now c.requires.1 l.at l.low l._j (l.invariant.1 c.requires.0 c.requires.1) c.loop-j-test.true).first)

pub some_met-requires : goal.some_met-requires
some_met-requires c = let T = (let l = c.loop-j in apart_turn c.requires.0 c.args.m.now c.requires.1 l.at l.low l._j (l.invariant.1 c.requires.0 c.requires.1) c.loop-j-test.true) in let n = c.count.ensures T.first in (omega arith, omega (arith, T.few, n), omega (arith, T.within, n, c.requires.2))

pub returns-then-some_met : goal.returns-then-some_met
returns-then-some_met c = λ g M. let T = (let l = c.loop-j in apart_turn g c.args.m.now M l.at l.low l._j (l.invariant.1 g M) c.loop-j-test.true) in T.met _ _ (c.count.ensures T.first) c.some_met.ensures c.if-some_met.true

pub offset_bounds-a-at : goal.offset_bounds-a-at
offset_bounds-a-at c = omega (arith, (let l = c.loop-j in apart_turn c.requires.0 c.args.m.now c.requires.1 l.at l.low l._j (l.invariant.1 c.requires.0 c.requires.1) c.loop-j-test.true).there)

pub bounds-a-at : goal.bounds-a-at
bounds-a-at c = omega (arith, (let l = c.loop-j in apart_turn c.requires.0 c.args.m.now c.requires.1 l.at l.low l._j (l.invariant.1 c.requires.0 c.requires.1) c.loop-j-test.true).there)

pub overflow_add-at : goal.overflow_add-at
overflow_add-at c = omega (arith, (let l = c.loop-j in apart_turn c.requires.0 c.args.m.now c.requires.1 l.at l.low l._j (l.invariant.1 c.requires.0 c.requires.1) c.loop-j-test.true).there)

pub loop-j-preserved : goal.loop-j-preserved
loop-j-preserved c = (omega (arith, c.loop-j-test.true), λ g M. let T = (let l = c.loop-j in apart_turn g c.args.m.now M l.at l.low l._j (l.invariant.1 g M) c.loop-j-test.true) in T.past _ _ (c.count.ensures T.first) c.some_met.ensures c.if-some_met.false)

pub returns : goal.returns
returns c = λ g M. let l = c.loop-j in apart_end g _ M l.at l.low l._j (l.invariant.1 g M) (omega (arith, c.loop-j-test.false))
