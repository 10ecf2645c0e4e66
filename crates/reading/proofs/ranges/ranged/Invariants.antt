use Prim.Native.Nat.{◌≤◌, ◌-◌}
use lib.ListN.{length}
use Rattle.reading.specs.Ranges.{Readable}
use Rattle.reading.proofs.RangeSteps.{Walked}
use Rattle.reading.proofs.ranges.ranged.Given as goal

abbrev pub invariant-loop-at : goal.invariant-loop-at
invariant-loop-at l = (l.at ≤ length l.p) × ((g : Readable l.p) → Walked g.sig l.p g.pattern l.at)

abbrev pub decreases-loop-at : goal.decreases-loop-at
decreases-loop-at l = length l.p - l.at
