use mathlib.Core.Path.{sym, ◌∙◌}
use native.Mathlib.Omega.{arith}
use Rattle.rowset.proofs.MemberLaws.{settled_start, settled_past, settled_next}
use Rattle.visits.proofs.CursorLaws.{real_in, real_out}
use Rattle.visits.proofs.real.Goals as goal

pub copy-requires : goal.copy-requires
copy-requires c = c.requires.4

pub loop-r-init : goal.loop-r-init
loop-r-init c = let f = c.first_in-r.ensures in (f.most, f.there, c.copy.auto.x ∙ c.requires.4, settled_past _ (settled_start c.copy.ensures) (omega arith) (λ q a l. real_out _ _ (f.before q l)))

pub own-m-requires : goal.own-m-requires
own-m-requires c = let i = c.loop-r.invariant in let e = c.requires in (omega arith, omega arith, e.3 _ (omega arith) (i.1 c.loop-r-test.true))

pub put-requires : goal.put-requires
put-requires c = (omega arith, c.loop-r.invariant.2)

pub next_in-r-requires : goal.next_in-r-requires
next_in-r-requires c = (omega arith, omega arith)

pub loop-r-smaller : goal.loop-r-smaller
loop-r-smaller c = omega (arith, c.next_in-r.ensures.least)

pub loop-r-preserved : goal.loop-r-preserved
loop-r-preserved c = let x = c.next_in-r.ensures in let i = c.loop-r.invariant in (x.most, x.there, c.put.auto.s ∙ i.2, settled_past _ (settled_next _ _ i.3 (real_in _ _ _ _ (i.1 c.loop-r-test.true) c.own-m.ensures) c.put.ensures) (omega (arith, x.least)) (λ q a l. real_out _ _ (x.between q a l)))

pub shape_of-re : goal.shape_of-re
shape_of-re c = c.loop-r.invariant.2 ∙ sym c.requires.4

pub returns : goal.returns
returns c = λ r l. c.loop-r.invariant.3.done r (omega (arith, c.loop-r-test.false)) (omega arith)
