use mathlib.Core.Path.{◌≡◌}
use Prim.Native.Nat.{◌≤◌}
use lib.ListN.{length}
use Rattle.day_log.specs.Limits.{log_limit}
use Rattle.counting.proofs.Counting.{Going}
use Rattle.counting.proofs.count.Given as goal

abbrev pub invariant-loop-entry : goal.invariant-loop-entry
invariant-loop-entry l = (l.entry-index ≤ length l.log) × (length l.log ≤ log_limit) × (length l.counts ≡ length l.initial.counts) × Going l.log l.counts l.entry-index
