use Prim.Native.Nat.{◌≤◌, ◌<◌, ◌-◌}
use lib.ListN.{length}
use Rattle.rowlist.specs.Grow.{ListFirst}
use Rattle.rowlist.proofs.Growing.{Counting}
use Rattle.rowlist.proofs.grow.count.Given as goal

abbrev pub invariant-loop-at : goal.invariant-loop-at
invariant-loop-at l = (l.at < length l.y) × (l.n ≤ l.at) × ((g : ListFirst l.y) → Counting g l.n l.at)

abbrev pub decreases-loop-at : goal.decreases-loop-at
decreases-loop-at l = length l.y - l.at
