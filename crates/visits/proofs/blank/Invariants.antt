use mathlib.Core.Path.{◌≡◌}
use mathlib.Core.Bool.{true}
use Prim.Native.Nat.{◌-◌, ◌≤◌, ◌<◌}
use Rattle.rowset.specs.Member.{member}
use Rattle.visits.proofs.CursorLaws.{Top}
use Rattle.visits.proofs.blank.Given as goal

abbrev pub invariant-loop-r : goal.invariant-loop-r
invariant-loop-r l = (l.r ≤ l.n) × (l.r < l.n → member l.s l.r ≡ true) × Top l.rows l.s l.cur l.n l.ncols l.m l.r

abbrev pub decreases-loop-r : goal.decreases-loop-r
decreases-loop-r l = l.n - l.r
