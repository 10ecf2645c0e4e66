use mathlib.Core.Path.{◌≡◌}
use mathlib.Core.Bool.{true}
use Prim.Native.Nat.{◌-◌, ◌≤◌, ◌<◌}
use Rattle.rowset.specs.Member.{member}
use Rattle.visits.proofs.CursorLaws.{High}
use Rattle.visits.proofs.raise.Given as goal

abbrev pub invariant-loop-r : goal.invariant-loop-r
invariant-loop-r l = (l.r ≤ l.n) × (l.r < l.n → member l.re l.r ≡ true) × High (member l.re) l.n l.v l.initial.cur l.initial.vis l.cur l.vis l.r

abbrev pub decreases-loop-r : goal.decreases-loop-r
decreases-loop-r l = l.n - l.r
