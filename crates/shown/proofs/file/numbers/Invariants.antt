use Rattle.std.proofs.Common.{length, ◌≤◌}
use Rattle.shown.proofs.file.numbers.Given as goal

abbrev pub invariant-loop-b : goal.invariant-loop-b
invariant-loop-b l = l.n ≤ length l.out
