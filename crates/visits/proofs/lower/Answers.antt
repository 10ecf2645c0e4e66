use Prim.Native.Nat.{◌<◌}
use native.Mathlib.Omega.{arith}
use Rattle.visits.proofs.CursorLaws.{low_start, low_next, low_past, low_some, low_all}
use Rattle.visits.proofs.lower.Goals as goal

pub loop-from-init : goal.loop-from-init
loop-from-init c = (omega arith, low_start _ _)

pub next_in-r-requires : goal.next_in-r-requires
next_in-r-requires c = (omega arith, omega arith)

pub shape_of-cur-then-r-n : goal.shape_of-cur-then-r-n
shape_of-cur-then-r-n c = c.loop-from.invariant.1.len

pub returns-then-r-n : goal.returns-then-r-n
returns-then-r-n c = let x = c.next_in-r.ensures in low_all (low_past _ _ c.loop-from.invariant.1 (omega (arith, x.least)) x.between) (omega (arith, c.if-r-n.true)) x.most

pub drop-requires : goal.drop-requires
drop-requires c = let x = c.next_in-r.ensures in let w = c.loop-from.invariant.1 in let l : c.next_in-r.result < c.args.n = omega (arith, x.most, c.if-r-n.false) in (omega (arith, w.len), low_some (low_past _ _ w (omega (arith, x.least)) x.between) (c.requires.2 _ l (x.there l)))

pub overflow_add-from : goal.overflow_add-from
overflow_add-from c = omega (arith, c.next_in-r.ensures.most, c.if-r-n.false)

pub loop-from-smaller : goal.loop-from-smaller
loop-from-smaller c = omega (arith, c.next_in-r.ensures.most, c.next_in-r.ensures.least, c.if-r-n.false)

pub loop-from-preserved : goal.loop-from-preserved
loop-from-preserved c = let x = c.next_in-r.ensures in let w = c.loop-from.invariant.1 in let l : c.next_in-r.result < c.args.n = omega (arith, x.most, c.if-r-n.false) in (omega arith, low_next _ (low_past _ _ w (omega (arith, x.least)) x.between) (omega (arith, w.len)) (x.there l) c.drop.ensures)

pub shape_of-cur : goal.shape_of-cur
shape_of-cur c = c.loop-from.invariant.1.len

pub returns : goal.returns
returns c = low_all c.loop-from.invariant.1 (omega (arith, c.loop-from-test.false)) (omega arith)
