-- The measure is the room that is left.
use mathlib.Core.Path.{◌≡◌}
use Prim.Native.Nat.{ℕ, ◌+◌, ◌-◌, ◌*◌, ◌≤◌}
use lib.ListN.{length}
use Rattle.sets.specs.Heads.{number_of}
use Rattle.sets.specs.Set.{bit, members}
use Rattle.path.specs.State.{Kept, default_in}
use Rattle.preorder.specs.Front.{front_of, heads_in}
use Rattle.preorder.specs.Node.{Branching, child_of}
use Rattle.preorder.proofs.ChildrenLaws.{Part}
use Rattle.preorder.proofs.+branch_node_visit.Given as goal

abbrev pub decreases-branch : goal.decreases-branch
decreases-branch l = 3 * length l.out.now

abbrev pub decreases-node : goal.decreases-node
decreases-node l = 3 * length l.out.now + 2

abbrev pub decreases-visit : goal.decreases-visit
decreases-visit l = 3 * length l.out.now + 1

abbrev pub invariant-branch-loop-j : goal.invariant-branch-loop-j
invariant-branch-loop-j l = (l.j ≤ l.m) × (l.at ≤ length l.out) × (length l.out ≡ length l.initial.out) × (length l.vis ≡ length l.initial.vis) × (l.cur ≡ l.initial.cur) × Kept l.n l.initial.cur l.initial.vis l.vis
    × ((len : ℕ) → len ≡ length l.initial.out → (g : Branching l.t l.a l.rows l.n l.s l.re l.initial.cur l.initial.vis l.ncols l.v l.base len l.k) → (fuel : ℕ) → len ≤ fuel → Part l.base (front_of l.f (number_of l.initial.hs)) (heads_in l.f (number_of l.initial.hs)) (heads_in l.f (number_of l.hs)) (child_of g (default_in l.rows) fuel) l.initial.out l.out l.at l.j)
    × (l.links + l.m ≤ l.at) × (l.j + length (members (number_of l.hs)) ≡ l.m) × ((i : ℕ) → bit (number_of l.hs) i ≡ 1 → bit (number_of l.initial.hs) i ≡ 1)

abbrev pub decreases-branch-loop-j : goal.decreases-branch-loop-j
decreases-branch-loop-j l = l.m - l.j
