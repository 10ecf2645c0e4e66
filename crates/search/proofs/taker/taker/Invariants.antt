use mathlib.Core.Path.{◌≡◌}
use mathlib.Core.Bool.{true, false}
use Prim.Native.Nat.{ℕ, ◌≤◌, ◌<◌}
use Rattle.row.specs.RowFits.{row_fits}
use Rattle.rowset.specs.Member.{member}
use Rattle.search.specs.Branch.{row_at}
use Rattle.search.specs.Choice.{GivenTaker}
use Rattle.search.proofs.taker.taker.Given as goal

abbrev pub invariant-loop-r : goal.invariant-loop-r
invariant-loop-r l = (l.r ≤ l.n) × ((g : GivenTaker l.t l.a l.rows l.n l.b) (p : ℕ) → p < l.r → member l.s p ≡ true → row_fits (row_at g.table.rs p) g.value ≡ false)
