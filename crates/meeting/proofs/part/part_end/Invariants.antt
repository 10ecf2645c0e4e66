use Prim.Native.Nat.{◌-◌}
use lib.ListN.{length}
use Rattle.meeting.specs.Part.{GivenPart}
use Rattle.meeting.proofs.Ending.{Now}
use Rattle.meeting.proofs.part.part_end.Given as goal

abbrev pub invariant-loop-left : goal.invariant-loop-left
invariant-loop-left l = (g : GivenPart l.t l.a l.at) → Now g l.end l.left

abbrev pub decreases-loop-left : goal.decreases-loop-left
decreases-loop-left l = length l.a - l.end
