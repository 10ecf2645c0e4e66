use mathlib.Core.Path.{refl, ◌∙◌}
use native.Mathlib.Omega.{arith}
use lib.ListN.{length-set}
use Rattle.cell.proofs.Walk.{there}
use Rattle.rowlist.proofs.Products.{product_task, start2, given2, turn2, room2, end2}
use Rattle.products.proofs.product.product.Goals as goal

pub loop-at-init : goal.loop-at-init
loop-at-init c = let g = c.requires in (there (product_task g) 0 0 c.args.out.now (start2 g), omega arith, refl, λ g. start2 g)

pub one_by_all-used-requires : goal.one_by_all-used-requires
one_by_all-used-requires c = let l = c.loop-at in let g = c.requires in given2 g l.at l.used l.out (l.invariant.3 g) c.loop-at-test.true

pub overflow_add-used : goal.overflow_add-used
overflow_add-used c = let t = (let l = c.loop-at in turn2 c.requires l.at l.used l.out c.one_by_all-used.result c.one_by_all-used.new.out (l.invariant.3 c.requires) c.loop-at-test.true c.one_by_all-used.ensures c.one_by_all-used.auto.out) in omega (arith, t.fit, t.whole, c.loop-at.invariant)

pub overflow_add-at : goal.overflow_add-at
overflow_add-at c = omega (arith, (let l = c.loop-at in turn2 c.requires l.at l.used l.out c.one_by_all-used.result c.one_by_all-used.new.out (l.invariant.3 c.requires) c.loop-at-test.true c.one_by_all-used.ensures c.one_by_all-used.auto.out).on)

pub loop-at-smaller : goal.loop-at-smaller
loop-at-smaller c = omega (arith, (let l = c.loop-at in turn2 c.requires l.at l.used l.out c.one_by_all-used.result c.one_by_all-used.new.out (l.invariant.3 c.requires) c.loop-at-test.true c.one_by_all-used.ensures c.one_by_all-used.auto.out).on, c.loop-at.invariant.0)

pub loop-at-preserved : goal.loop-at-preserved
loop-at-preserved c = let t = (let l = c.loop-at in turn2 c.requires l.at l.used l.out c.one_by_all-used.result c.one_by_all-used.new.out (l.invariant.3 c.requires) c.loop-at-test.true c.one_by_all-used.ensures c.one_by_all-used.auto.out) in (there (product_task c.requires) _ _ _ t.now, t.fit, t.whole ∙ c.loop-at.invariant.2, λ g. (let l = c.loop-at in turn2 g l.at l.used l.out c.one_by_all-used.result c.one_by_all-used.new.out (l.invariant.3 g) c.loop-at-test.true c.one_by_all-used.ensures c.one_by_all-used.auto.out).now)

pub offset_bounds-out-used-2 : goal.offset_bounds-out-used-2
offset_bounds-out-used-2 c = let l = c.loop-at in let g = c.requires in omega (arith, room2 g l.at l.used l.out (l.invariant.3 g) c.loop-at-test.false, l.invariant)

pub bounds-out-used : goal.bounds-out-used
bounds-out-used c = let l = c.loop-at in let g = c.requires in omega (arith, room2 g l.at l.used l.out (l.invariant.3 g) c.loop-at-test.false)

pub shape_of-out : goal.shape_of-out
shape_of-out c = simp length-set c.loop-at.invariant.2

pub returns : goal.returns
returns c = λ g. let l = c.loop-at in end2 g l.at l.used l.out (l.invariant.3 g) c.loop-at-test.false
