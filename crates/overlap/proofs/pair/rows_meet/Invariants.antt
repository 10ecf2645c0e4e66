use Prim.Native.Nat.{◌+◌, ◌-◌}
use lib.ListN.{length}
use Rattle.overlap.specs.Pair.{TwoRows}
use Rattle.overlap.proofs.Lockstep.{Now}
use Rattle.overlap.proofs.pair.rows_meet.Given as goal

abbrev pub invariant-loop-left : goal.invariant-loop-left
invariant-loop-left l = (g : TwoRows l.t l.a l.b) → Now g l.x l.y l.left

abbrev pub decreases-loop-left : goal.decreases-loop-left
decreases-loop-left l = length l.a + length l.b - (l.x.at + l.y.at)
