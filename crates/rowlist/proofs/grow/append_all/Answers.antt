use mathlib.Core.Path.{refl, ◌∙◌}
use native.Mathlib.Omega.{arith}
use Rattle.cell.proofs.Walk.{there}
use Rattle.rowlist.proofs.Growing.{all_task, all_start, all_given, all_turn, all_end}
use Rattle.rowlist.proofs.grow.append_all.Goals as goal

pub loop-at-init : goal.loop-at-init
loop-at-init c = let g = c.requires in (there (all_task g) 0 0 c.args.out.now (all_start c.args.out.now g), omega arith, refl, λ g. all_start c.args.out.now g)

pub append-used-requires : goal.append-used-requires
append-used-requires c = let l = c.loop-at in let g = c.requires in all_given c.args.out.now g l.at l.used l.out (l.invariant.3 g) c.loop-at-test.true

pub overflow_add-used : goal.overflow_add-used
overflow_add-used c = let t = (let l = c.loop-at in all_turn c.args.out.now c.requires l.at l.used l.out c.append-used.result c.append-used.new.out (l.invariant.3 c.requires) c.loop-at-test.true c.append-used.ensures c.append-used.auto.out) in omega (arith, t.fit, t.whole, c.loop-at.invariant)

pub overflow_add-at : goal.overflow_add-at
overflow_add-at c = omega (arith, (let l = c.loop-at in all_turn c.args.out.now c.requires l.at l.used l.out c.append-used.result c.append-used.new.out (l.invariant.3 c.requires) c.loop-at-test.true c.append-used.ensures c.append-used.auto.out).on)

pub loop-at-smaller : goal.loop-at-smaller
loop-at-smaller c = omega (arith, (let l = c.loop-at in all_turn c.args.out.now c.requires l.at l.used l.out c.append-used.result c.append-used.new.out (l.invariant.3 c.requires) c.loop-at-test.true c.append-used.ensures c.append-used.auto.out).on, c.loop-at.invariant.0)

pub loop-at-preserved : goal.loop-at-preserved
loop-at-preserved c = let t = (let l = c.loop-at in all_turn c.args.out.now c.requires l.at l.used l.out c.append-used.result c.append-used.new.out (l.invariant.3 c.requires) c.loop-at-test.true c.append-used.ensures c.append-used.auto.out) in (there (all_task c.requires) _ _ _ t.now, t.fit, t.whole ∙ c.loop-at.invariant.2, λ g. (let l = c.loop-at in all_turn (c.before.before.before.before).args.out.now g l.at l.used l.out c.append-used.result c.append-used.new.out (l.invariant.3 g) c.loop-at-test.true c.append-used.ensures c.append-used.auto.out).now)

pub shape_of-out : goal.shape_of-out
shape_of-out c = c.loop-at.invariant.2

pub returns : goal.returns
returns c = λ g. let l = c.loop-at in all_end c.args.out.now g l.at l.used l.out (l.invariant.3 g) c.loop-at-test.false
