use Rattle.std.proofs.Common.{length}
use Rattle.pairs.specs.Held.{Holding}
use Rattle.pairs.proofs.hold.hold_all.Given as goal

abbrev pub invariant-loop-w : goal.invariant-loop-w
invariant-loop-w l = Holding l.t l.s.used l.s.weight l.rows (length l.work)

abbrev pub decreases-loop-w : goal.decreases-loop-w
decreases-loop-w l = length l.w
