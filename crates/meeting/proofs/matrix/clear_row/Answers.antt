use mathlib.Core.Path.{◌∙◌}
use Prim.Native.Nat.{◌+◌, ◌*◌}
use native.Mathlib.Omega.{arith}
use lib.ListN.{length-set}
use Rattle.meeting.proofs.Notes.{off_turn}
use Rattle.meeting.proofs.matrix.clear_row.Goals as goal

pub loop-w-preserved : goal.loop-w-preserved
loop-w-preserved c = let a = c.args in let l = c.loop-w in (omega arith, length-set l.m (4 * a.i + l.w) _ ∙ l.invariant.1, off_turn a.off.now a.i l.w c.minus.result a.m.now l.m (omega arith) (omega (arith, l.invariant.1, c.requires.1)) c.minus.ensures l.invariant.2)
