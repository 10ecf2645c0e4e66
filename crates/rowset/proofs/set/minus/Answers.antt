use mathlib.Core.Path.{◌∙◌}
use native.Mathlib.Omega.{arith}
use lib.ListN.{length-set}
use Rattle.rowset.proofs.MemberLaws.{less_next}
use Rattle.rowset.proofs.set.minus.Goals as goal

pub loop-w-preserved : goal.loop-w-preserved
loop-w-preserved c = let l = c.loop-w in (omega arith, length-set l.r l.w _ ∙ l.invariant.1, less_next _ _ l.r l.w _ (omega (arith, l.invariant.1, c.loop-w-test.true)) l.invariant.2 c.minus.ensures)
