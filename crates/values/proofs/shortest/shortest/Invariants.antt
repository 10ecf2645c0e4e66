use mathlib.Core.Path.{◌≡◌}
use Prim.Native.Nat.{◌-◌}
use lib.ListN.{length}
use Rattle.values.specs.Shortest.{GivenRow}
use Rattle.witness.proofs.Filling.{Now}
use Rattle.values.proofs.Shortening.{Mid}
use Rattle.values.proofs.shortest.shortest.Given as goal

abbrev pub invariant-loop-left : goal.invariant-loop-left
invariant-loop-left l = (length l.out ≡ length l.initial.out) × ((g : GivenRow l.t l.row l.initial.out) → Now (Mid g l.i l.n l.left l.out))

abbrev pub decreases-loop-left : goal.decreases-loop-left
decreases-loop-left l = length l.row - l.i
