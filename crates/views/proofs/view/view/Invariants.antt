use mathlib.Core.Path.{◌≡◌}
use Prim.Native.Nat.{◌-◌}
use lib.ListN.{length}
use Rattle.views.specs.Write.{GivenView}
use Rattle.views.proofs.Writing.{Now}
use Rattle.views.proofs.view.view.Given as goal

abbrev pub invariant-loop-todo : goal.invariant-loop-todo
invariant-loop-todo l = (length l.out ≡ length l.initial.out) × ((g : GivenView l.t l.row l.initial.out) → Now g l.opened l.left l.at l.n l.todo l.out)

abbrev pub decreases-loop-todo : goal.decreases-loop-todo
decreases-loop-todo l = length l.row - l.at
