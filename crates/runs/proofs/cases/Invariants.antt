use Rattle.std.proofs.Common.{length, ◌≤◌}
use Rattle.runs.proofs.cases.Given as goal

abbrev pub invariant-loop-n : goal.invariant-loop-n
invariant-loop-n g l = length l.w ≤ length l.all

abbrev pub decreases-loop-n : goal.decreases-loop-n
decreases-loop-n g l = length l.w
