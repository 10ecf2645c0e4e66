use mathlib.Core.Path.{◌≡◌}
use Prim.Native.Nat.{◌-◌}
use lib.ListN.{length}
use Rattle.indexing.specs.Indexing.{GivenList}
use Rattle.indexing.proofs.ListLaws.{Filling}
use Rattle.indexing.proofs.list.index_list.Given as goal

abbrev pub invariant-loop-at : goal.invariant-loop-at
invariant-loop-at l = (length l.rows ≡ length l.initial.rows) × ((g : GivenList l.t l.lists l.from l.r (length l.initial.rows)) → Filling g l.number l.plan l.initial.rows l.at l.q l.rows)

abbrev pub decreases-loop-at : goal.decreases-loop-at
decreases-loop-at l = length l.lists - l.at
