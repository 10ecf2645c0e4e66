use mathlib.Core.Path.{◌≡◌}
use Prim.Native.Nat.{◌+◌, ◌-◌}
use lib.ListN.{length}
use Rattle.cell.proofs.LockstepFacts.{Given}
use Rattle.cell.proofs.Turns.{Now}
use Rattle.cell.proofs.cell.combine.Given as goal

abbrev pub invariant-loop-left : goal.invariant-loop-left
invariant-loop-left l = (length l.out ≡ length l.initial.out) × ((g : Given l.t l.a l.b l.initial.out) → Now g l.x l.y l.n l.left l.out)

abbrev pub decreases-loop-left : goal.decreases-loop-left
decreases-loop-left l = length l.a + length l.b - (l.x.at + l.y.at)
