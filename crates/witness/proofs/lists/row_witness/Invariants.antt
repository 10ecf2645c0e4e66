use mathlib.Core.Path.{◌≡◌}
use Prim.Native.Nat.{◌-◌, ◌<◌}
use lib.ListN.{length}
use Rattle.overlap.proofs.Search.{Now, row_task}
use Rattle.witness.specs.Lists.{GivenRowList}
use Rattle.witness.proofs.Searching.{by_rows}
use Rattle.witness.proofs.lists.row_witness.Given as goal

abbrev pub invariant-loop-at : goal.invariant-loop-at
invariant-loop-at l = (l.out ≡ l.initial.out) × (l.at < length l.y) × ((g : GivenRowList l.t l.x l.y l.initial.out) → Now (row_task (by_rows g)) l.at)

abbrev pub decreases-loop-at : goal.decreases-loop-at
decreases-loop-at l = length l.y - l.at
