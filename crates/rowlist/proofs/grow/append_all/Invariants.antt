use mathlib.Core.Path.{◌≡◌}
use Prim.Native.Nat.{◌-◌, ◌≤◌, ◌<◌}
use lib.ListN.{length}
use Rattle.cell.proofs.Walk.{Now}
use Rattle.rowlist.specs.Grow.{GivenAppends}
use Rattle.rowlist.proofs.Growing.{all_task}
use Rattle.rowlist.proofs.grow.append_all.Given as goal

abbrev pub invariant-loop-at : goal.invariant-loop-at
invariant-loop-at l = (l.at < length l.y) × (l.used ≤ length l.out) × (length l.out ≡ length l.initial.out) × ((g : GivenAppends l.x l.n l.y (length l.initial.out)) → Now (all_task g) l.at l.used l.out)

abbrev pub decreases-loop-at : goal.decreases-loop-at
decreases-loop-at l = length l.y - l.at
