use native.Mathlib.Omega.{arith}
use Rattle.sets.proofs.ListSets.{union_is, intersection_is}
use Rattle.cell.proofs.CursorFacts.{joined_is}
use Rattle.cell.proofs.cell.join.Goals as goal

pub returns : goal.returns
returns c = let g = c.args in joined_is g.a g.b _ _ _ c.min.ensures (union_is _ _ _ c.join.ensures) (omega arith) (intersection_is _ _ _ c.meet.ensures)
