use native.Mathlib.Omega.{arith}
use Rattle.visits.proofs.CursorLaws.{high_start, high_next, high_past, high_small, high_all}
use Rattle.visits.proofs.raise.Goals as goal

pub loop-r-init : goal.loop-r-init
loop-r-init c = let f = c.first_in-r.ensures in (f.most, f.there, high_past _ _ (high_start _ _ _ _ _) (omega arith) (λ q a l. f.before q l))

pub lift-requires : goal.lift-requires
lift-requires c = let i = c.loop-r.invariant in let e = c.requires in (omega (arith, i.2.len), omega (arith, i.2.long), omega arith, high_small i.2 (e.5 _ (omega arith) (i.1 c.loop-r-test.true)))

pub next_in-r-requires : goal.next_in-r-requires
next_in-r-requires c = (omega arith, omega arith)

pub loop-r-smaller : goal.loop-r-smaller
loop-r-smaller c = omega (arith, c.next_in-r.ensures.least)

pub loop-r-preserved : goal.loop-r-preserved
loop-r-preserved c = let x = c.next_in-r.ensures in let i = c.loop-r.invariant in let e = c.requires in (x.most, x.there, high_past _ _ (high_next _ _ _ _ _ _ _ _ _ _ i.2 (omega (arith, c.loop-r-test.true)) e.4 e.5 (i.1 c.loop-r-test.true) (omega (arith, i.2.len)) (omega (arith, i.2.long)) c.lift.ensures) (omega (arith, x.least)) (λ q a l. x.between q a l))

pub shape_of-cur : goal.shape_of-cur
shape_of-cur c = c.loop-r.invariant.2.len

pub shape_of-vis : goal.shape_of-vis
shape_of-vis c = c.loop-r.invariant.2.long

pub returns : goal.returns
returns c = high_all c.loop-r.invariant.2 (omega (arith, c.loop-r-test.false)) (omega arith)
