use Rattle.std.proofs.Common.{◌-◌, ◌*◌, ◌≤◌, ◌<◌}
use Rattle.rowset.specs.Limits.{row_limit}
use Rattle.pairs.specs.Check.{check_limit}
use Rattle.pairs.proofs.compare.line.Given as goal

abbrev pub invariant-loop-k : goal.invariant-loop-k
invariant-loop-k g l = (l.matrix ≤ l.k) × (l.pairs ≤ l.k) × (l.differ ≤ l.k) × (l.check < check_limit) × (l.k ≤ l.n * row_limit)

abbrev pub decreases-loop-k : goal.decreases-loop-k
decreases-loop-k g l = l.n * row_limit - l.k
