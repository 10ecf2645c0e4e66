use mathlib.Core.Path.{◌≡◌}
use Prim.Native.Nat.{◌^◌, ◌<◌}
use lib.Count.{ones}
use lib.ListN.{length}
use Rattle.rowset.specs.Limits.{row_limit}
use Rattle.cell.specs.Cell.{cell_width}
use Rattle.meeting.specs.Descent.{Moved}
use Rattle.rowset.proofs.WordLaws.{Left, gone}
use Rattle.meeting.proofs.classes.pass.Given as goal

abbrev pub invariant-loop-left : goal.invariant-loop-left
invariant-loop-left l = (l.left < 2 ^ 64) × (length l.cur ≡ row_limit) × Left l.base l.word l.left × Moved (gone l.base l.word l.left) (λ q. cell_width) l.initial.cur l.cur

abbrev pub decreases-loop-left : goal.decreases-loop-left
decreases-loop-left l = ones l.left
