use Rattle.std.proofs.Common.{length}
use Rattle.patterns.proofs.lines.Given as goal

abbrev pub decreases-loop-w : goal.decreases-loop-w
decreases-loop-w g l = length l.w
