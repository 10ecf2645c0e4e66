use mathlib.Core.Path.{refl, ◌∙◌}
use native.Mathlib.Omega.{arith}
use lib.ListN.{length-set}
use Rattle.cell.proofs.Walk.{there}
use Rattle.rowlist.proofs.Growing.{grow_task, grow_start, grow_given, grow_turn, grow_room, grow_end}
use Rattle.rowlist.proofs.grow.append_each.Goals as goal

pub loop-at-init : goal.loop-at-init
loop-at-init c = let g = c.requires in (there (grow_task g) 0 0 c.args.out.now (grow_start c.args.out.now g), omega arith, refl, λ g. grow_start c.args.out.now g)

pub append_all-used-requires : goal.append_all-used-requires
append_all-used-requires c = let l = c.loop-at in let g = c.requires in grow_given c.args.out.now g l.at l.used l.out (l.invariant.3 g) c.loop-at-test.true

pub overflow_add-used : goal.overflow_add-used
overflow_add-used c = let t = (let l = c.loop-at in grow_turn c.args.out.now c.requires l.at l.used l.out c.append_all-used.result c.append_all-used.new.out (l.invariant.3 c.requires) c.loop-at-test.true c.append_all-used.ensures c.append_all-used.auto.out) in omega (arith, t.fit, t.whole, c.loop-at.invariant)

pub overflow_add-at : goal.overflow_add-at
overflow_add-at c = omega (arith, (let l = c.loop-at in grow_turn c.args.out.now c.requires l.at l.used l.out c.append_all-used.result c.append_all-used.new.out (l.invariant.3 c.requires) c.loop-at-test.true c.append_all-used.ensures c.append_all-used.auto.out).on)

pub loop-at-smaller : goal.loop-at-smaller
loop-at-smaller c = omega (arith, (let l = c.loop-at in grow_turn c.args.out.now c.requires l.at l.used l.out c.append_all-used.result c.append_all-used.new.out (l.invariant.3 c.requires) c.loop-at-test.true c.append_all-used.ensures c.append_all-used.auto.out).on, c.loop-at.invariant.0)

pub loop-at-preserved : goal.loop-at-preserved
loop-at-preserved c = let t = (let l = c.loop-at in grow_turn c.args.out.now c.requires l.at l.used l.out c.append_all-used.result c.append_all-used.new.out (l.invariant.3 c.requires) c.loop-at-test.true c.append_all-used.ensures c.append_all-used.auto.out) in (there (grow_task c.requires) _ _ _ t.now, t.fit, t.whole ∙ c.loop-at.invariant.2, λ g. (let l = c.loop-at in grow_turn c.args.out.now g l.at l.used l.out c.append_all-used.result c.append_all-used.new.out (l.invariant.3 g) c.loop-at-test.true c.append_all-used.ensures c.append_all-used.auto.out).now)

pub offset_bounds-out-used-2 : goal.offset_bounds-out-used-2
offset_bounds-out-used-2 c = let l = c.loop-at in let g = c.requires in omega (arith, grow_room c.args.out.now g l.at l.used l.out (l.invariant.3 g) c.loop-at-test.false, l.invariant)

pub bounds-out-used : goal.bounds-out-used
bounds-out-used c = let l = c.loop-at in let g = c.requires in omega (arith, grow_room c.args.out.now g l.at l.used l.out (l.invariant.3 g) c.loop-at-test.false)

pub shape_of-out : goal.shape_of-out
shape_of-out c = simp length-set c.loop-at.invariant.2

pub returns : goal.returns
returns c = λ g. let l = c.loop-at in grow_end c.args.out.now g l.at l.used l.out (l.invariant.3 g) c.loop-at-test.false
