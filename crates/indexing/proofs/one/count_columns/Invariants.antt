use mathlib.Core.Path.{◌≡◌}
use Prim.Native.Nat.{◌+◌, ◌-◌, ◌*◌}
use lib.ListN.{length}
use Rattle.path.specs.State.{row_stride}
use Rattle.path.specs.Rows.{GivenRow, Before}
use Rattle.path.proofs.IndexLaws.{OwnAt, Counting}
use Rattle.indexing.proofs.one.count_columns.Given as goal

abbrev pub invariant-loop-left : goal.invariant-loop-left
invariant-loop-left l = ((g : GivenRow l.t l.a l.start l.len) → OwnAt g.known.sig l.t l.a (l.start + l.len) (l.start + 3 * l.i) l.left) × Counting l.t l.a l.rows l.r l.start l.i l.left × Before (row_stride * l.r + 4) l.initial.rows l.rows × (length l.rows ≡ length l.initial.rows)

abbrev pub decreases-loop-left : goal.decreases-loop-left
decreases-loop-left l = l.len - 3 * l.i
