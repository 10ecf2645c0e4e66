use native.Mathlib.Omega.{arith}
use Rattle.rowlist.proofs.Growing.{count_start, count_there, count_turn, count_end}
use Rattle.rowlist.proofs.grow.count.Goals as goal

pub loop-at-init : goal.loop-at-init
loop-at-init c = (count_there c.requires 0 0 (count_start c.requires), omega arith, λ g. count_start g)

pub overflow_add-at-in-loop-at : goal.overflow_add-at-in-loop-at
overflow_add-at-in-loop-at c = let l = c.loop-at in let g = c.requires in omega (arith, (count_turn g l.n l.at (l.invariant.2 g) c.loop-at-test.true).1, c.well_formed)

pub loop-at-preserved : goal.loop-at-preserved
loop-at-preserved c = let l = c.loop-at in let k = c.requires in let m = (count_turn k l.n l.at (l.invariant.2 k) c.loop-at-test.true).0 in (count_there k _ _ m, omega arith, λ g. (count_turn g l.n l.at (l.invariant.2 g) c.loop-at-test.true).0)

pub returns : goal.returns
returns c = λ g. let l = c.loop-at in count_end g l.n l.at (l.invariant.2 g) c.loop-at-test.false
