use Prim.Native.Nat.{◌≤◌, ◌-◌}
use lib.ListN.{length}
use Rattle.pattern.specs.Given.{Opens}
use Rattle.pattern.specs.Linearity.{side_of}
use Rattle.linearity.proofs.LinearSteps.{Left}
use Rattle.linearity.proofs.linear.+linear_at.Given as goal

abbrev pub decreases-linear_at : goal.decreases-linear_at
decreases-linear_at l = length l.p.now

abbrev pub invariant-loop-i : goal.invariant-loop-i
invariant-loop-i l = (l.i ≤ l.count) × (1 ≤ l.at) × (l.at ≤ length l.p) × ((g : Opens l.t l.p) → Left (side_of l.plus) l.t l.p g.pattern (side_of l.side) l.joint l.set l.at (l.count - l.i) l.i)
