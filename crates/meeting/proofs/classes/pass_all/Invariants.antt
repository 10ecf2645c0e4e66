use Prim.Native.Nat.{◌≤◌}
use Rattle.cell.specs.Cell.{cell_width}
use Rattle.meeting.specs.Descent.{Moved}
use Rattle.rowset.proofs.WordLaws.{among}
use Rattle.meeting.proofs.classes.pass_all.Given as goal

abbrev pub invariant-loop-w : goal.invariant-loop-w
invariant-loop-w l = (l.w ≤ 4) × Moved (among l.s l.w) (λ q. cell_width) l.initial.cur l.cur
