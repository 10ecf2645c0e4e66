use mathlib.Core.Path.{◌≡◌}
use Prim.Native.Nat.{ℕ, ◌≤◌}
use lib.ListN.{length}
use Rattle.search.specs.Branch.{GivenBranch, Cube}
use Rattle.search.proofs.cube.cube.Given as goal

abbrev pub invariant-loop-i : goal.invariant-loop-i
invariant-loop-i l = (l.i ≤ l.depth) × (length l.q ≡ length l.initial.q) × (length l.both ≡ length l.initial.both) × ((ql : ℕ) → ql ≡ length l.initial.q → (g : GivenBranch l.t l.a l.rows l.n l.path l.depth ql (length l.initial.both)) → Cube g.table.known.sig g.table.rs l.path l.i l.q l.words)
