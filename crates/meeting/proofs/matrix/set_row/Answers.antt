use mathlib.Core.Path.{◌∙◌}
use Prim.Native.Nat.{◌+◌, ◌*◌}
use native.Mathlib.Omega.{arith}
use lib.ListN.{length-set}
use Rattle.meeting.proofs.Notes.{put_turn}
use Rattle.meeting.proofs.matrix.set_row.Goals as goal

pub loop-w-preserved : goal.loop-w-preserved
loop-w-preserved c = let a = c.args in let l = c.loop-w in (omega arith, length-set l.m (4 * a.i + l.w) _ ∙ l.invariant.1, put_turn a.s.now a.i l.w a.m.now l.m (omega arith) (omega (arith, l.invariant.1, c.requires.1)) l.invariant.2)
