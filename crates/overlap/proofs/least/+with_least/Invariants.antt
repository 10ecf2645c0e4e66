use mathlib.Core.Path.{◌≡◌}
use Prim.Native.Nat.{◌≤◌}
use lib.ListN.{length}
use Rattle.overlap.specs.Least.{GivenHead}
use Rattle.overlap.proofs.LeastFacts.{Now}
use Rattle.overlap.proofs.least.+with_least.Given as goal

abbrev pub decreases-with_least : goal.decreases-with_least
decreases-with_least l = length l.out.now

abbrev pub invariant-loop-j : goal.invariant-loop-j
invariant-loop-j l = (length l.out ≡ length l.initial.out) × (1 ≤ l.at) × (l.at ≤ length l.initial.out) × (l.j ≤ l.n) × ((g : GivenHead l.t l.c l.initial.out) → Now g l.at l.j l.out)
