use mathlib.Core.Path.{◌≡◌}
use Prim.Native.Nat.{◌-◌, ◌<◌}
use lib.ListN.{length}
use Rattle.overlap.specs.Laws.{TwoPatterns}
use Rattle.overlap.proofs.Laws.{as_lists}
use Rattle.overlap.proofs.Search.{Now, list_task}
use Rattle.witness.proofs.lists.witness.Given as goal

abbrev pub invariant-loop-at : goal.invariant-loop-at
invariant-loop-at l = (l.out ≡ l.initial.out) × (l.at < length l.x) × ((g : TwoPatterns l.t l.x l.y) → Now (list_task (as_lists g)) l.at)

abbrev pub decreases-loop-at : goal.decreases-loop-at
decreases-loop-at l = length l.x - l.at
