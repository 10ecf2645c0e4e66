use Rattle.std.proofs.Common.{length, ◌≤◌}
use Rattle.calls.proofs.scene.play.Given as goal

abbrev pub invariant-loop-r : goal.invariant-loop-r
invariant-loop-r g l = length l.w ≤ length l.all

abbrev pub decreases-loop-r : goal.decreases-loop-r
decreases-loop-r g l = length l.w
