use Prim.Native.Nat.{◌-◌}
use lib.ListN.{length}
use Rattle.views.specs.Write.{GivenRow}
use Rattle.views.proofs.Edging.{Now}
use Rattle.views.proofs.frontier.frontier.Given as goal

abbrev pub invariant-loop-left : goal.invariant-loop-left
invariant-loop-left l = (g : GivenRow l.t l.row) → Now g l.opened l.at l.left l.m

abbrev pub decreases-loop-left : goal.decreases-loop-left
decreases-loop-left l = length l.row - l.at
