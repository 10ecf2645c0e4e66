use mathlib.Core.Path.{refl, ◌∙◌}
use native.Mathlib.Omega.{arith}
use Rattle.cell.proofs.Walk.{there}
use Rattle.rowlist.proofs.Products.{each_task, start1, given1, turn1, end1}
use Rattle.products.proofs.product.one_by_all.Goals as goal

pub loop-at-init : goal.loop-at-init
loop-at-init c = let g = c.requires in (there (each_task g) 0 0 c.args.out.now (start1 g), omega arith, refl, λ g. start1 g)

pub entry-used-requires : goal.entry-used-requires
entry-used-requires c = let l = c.loop-at in let g = c.requires in given1 g l.at l.used l.out (l.invariant.3 g) c.loop-at-test.true

pub overflow_add-used : goal.overflow_add-used
overflow_add-used c = let t = (let l = c.loop-at in turn1 c.requires l.at l.used l.out c.entry-used.result c.entry-used.new.out (l.invariant.3 c.requires) c.loop-at-test.true c.entry-used.ensures c.entry-used.auto.out) in omega (arith, t.fit, t.whole, c.loop-at.invariant)

pub overflow_add-at : goal.overflow_add-at
overflow_add-at c = omega (arith, (let l = c.loop-at in turn1 c.requires l.at l.used l.out c.entry-used.result c.entry-used.new.out (l.invariant.3 c.requires) c.loop-at-test.true c.entry-used.ensures c.entry-used.auto.out).on)

pub loop-at-smaller : goal.loop-at-smaller
loop-at-smaller c = omega (arith, (let l = c.loop-at in turn1 c.requires l.at l.used l.out c.entry-used.result c.entry-used.new.out (l.invariant.3 c.requires) c.loop-at-test.true c.entry-used.ensures c.entry-used.auto.out).on, c.loop-at.invariant.0)

pub loop-at-preserved : goal.loop-at-preserved
loop-at-preserved c = let t = (let l = c.loop-at in turn1 c.requires l.at l.used l.out c.entry-used.result c.entry-used.new.out (l.invariant.3 c.requires) c.loop-at-test.true c.entry-used.ensures c.entry-used.auto.out) in (there (each_task c.requires) _ _ _ t.now, t.fit, t.whole ∙ c.loop-at.invariant.2, λ g. (let l = c.loop-at in turn1 g l.at l.used l.out c.entry-used.result c.entry-used.new.out (l.invariant.3 g) c.loop-at-test.true c.entry-used.ensures c.entry-used.auto.out).now)

pub shape_of-out : goal.shape_of-out
shape_of-out c = c.loop-at.invariant.2

pub returns : goal.returns
returns c = λ g. let l = c.loop-at in end1 g l.at l.used l.out (l.invariant.3 g) c.loop-at-test.false
