use mathlib.Core.Path.{◌∙◌}
use native.Mathlib.Omega.{arith}
use Rattle.meeting.proofs.Listing.{turn, finished}
use Rattle.meeting.proofs.lists.gather_lists.Goals as goal

pub overflow_add-at : goal.overflow_add-at
overflow_add-at c = omega (arith, (let l = c.loop-j in turn c.requires.0 l.at l.q l._j l.cur (l.invariant.2 c.requires.0) c.loop-j-test.true).there)

pub gather-q-requires : goal.gather-q-requires
gather-q-requires c = ((let l = c.loop-j in turn c.requires.0 l.at l.q l._j l.cur (l.invariant.2 c.requires.0) c.loop-j-test.true).given, c.loop-j.invariant.0)

pub overflow_add-at-in-loop-j : goal.overflow_add-at-in-loop-j
overflow_add-at-in-loop-j c = omega (arith, (let l = c.loop-j in turn c.requires.0 l.at l.q l._j l.cur (l.invariant.2 c.requires.0) c.loop-j-test.true).there)

pub offset_bounds-a-at : goal.offset_bounds-a-at
offset_bounds-a-at c = omega (arith, (let l = c.loop-j in turn c.requires.0 l.at l.q l._j l.cur (l.invariant.2 c.requires.0) c.loop-j-test.true).there)

pub bounds-a-at : goal.bounds-a-at
bounds-a-at c = omega (arith, (let l = c.loop-j in turn c.requires.0 l.at l.q l._j l.cur (l.invariant.2 c.requires.0) c.loop-j-test.true).there)

pub overflow_add-at-in-loop-j-2 : goal.overflow_add-at-in-loop-j-2
overflow_add-at-in-loop-j-2 c = omega (arith, (let l = c.loop-j in turn c.requires.0 l.at l.q l._j l.cur (l.invariant.2 c.requires.0) c.loop-j-test.true).there)

pub loop-j-preserved : goal.loop-j-preserved
loop-j-preserved c = let l = c.loop-j in let r = c.gather-q in (r.auto.cur ∙ l.invariant.0, omega (arith, c.loop-j-test.true), λ g. let T = (let l = c.loop-j in turn g l.at l.q l._j l.cur (l.invariant.2 g) c.loop-j-test.true) in T.past r.result _ (r.ensures T.given))

pub returns : goal.returns
returns c = λ g. let l = c.loop-j in finished g l.at l.q l._j l.cur (l.invariant.2 g) (omega (arith, c.loop-j-test.false))
