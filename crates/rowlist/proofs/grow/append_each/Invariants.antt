use mathlib.Core.Path.{◌≡◌}
use Prim.Native.Nat.{◌-◌, ◌≤◌, ◌<◌}
use lib.ListN.{length}
use Rattle.cell.proofs.Walk.{Now}
use Rattle.rowlist.specs.Grow.{GivenGrow}
use Rattle.rowlist.proofs.Growing.{grow_task}
use Rattle.rowlist.proofs.grow.append_each.Given as goal

abbrev pub invariant-loop-at : goal.invariant-loop-at
invariant-loop-at l = (l.at < length l.x) × (l.used ≤ length l.out) × (length l.out ≡ length l.initial.out) × ((g : GivenGrow l.x l.y (length l.initial.out)) → Now (grow_task g) l.at l.used l.out)

abbrev pub decreases-loop-at : goal.decreases-loop-at
decreases-loop-at l = length l.x - l.at
