-- The measure is the number of rows that no step of the path has.
use mathlib.Core.Path.{◌≡◌}
use mathlib.Core.Bool.{cond}
use Prim.Native.Nat.{ℕ, ◌+◌, ◌-◌, ◌*◌}
use lib.ListN.{length}
use Rattle.sets.specs.Set.{bit}
use Rattle.views.specs.View.{kept_of, edge}
use Rattle.search.specs.Branch.{row_at}
use Rattle.search.specs.Look.{GivenLeave}
use Rattle.search.proofs.Bits.{bits}
use Rattle.search.proofs.LeaveFacts.{Leaving}
use Rattle.search.proofs.node.+leave_node.Given as goal

abbrev pub decreases-leave : goal.decreases-leave
decreases-leave l = 2 * (l.n - l.depth)

abbrev pub decreases-node : goal.decreases-node
decreases-node l = 2 * (l.n - l.depth) + 1

abbrev pub invariant-leave-loop-edge : goal.invariant-leave-loop-edge
invariant-leave-loop-edge l = (length l.path ≡ length l.initial.path) × (length l.q ≡ length l.initial.q) × (length l.both ≡ length l.initial.both) × (length l.v ≡ length l.initial.v)
    × ((ql ol vl : ℕ) → ql ≡ length l.initial.q → ol ≡ length l.initial.both → vl ≡ length l.initial.v → (g : GivenLeave l.t l.a l.rows l.n l.s l.initial.path l.depth l.r l.cells ql ol vl) → Leaving g l.path l.opened × ((c : ℕ) → bit l.edge c ≡ cond (edge (kept_of l.opened) c 0 (row_at g.branch.table.rs l.r)) 1 0))

abbrev pub decreases-leave-loop-edge : goal.decreases-leave-loop-edge
decreases-leave-loop-edge l = bits l.opened 64
