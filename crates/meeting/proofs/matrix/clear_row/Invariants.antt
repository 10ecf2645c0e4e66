use mathlib.Core.Path.{◌≡◌}
use Prim.Native.Nat.{◌≤◌}
use lib.ListN.{length}
use Rattle.meeting.proofs.Notes.{RowDone, take_off}
use Rattle.meeting.proofs.matrix.clear_row.Given as goal

abbrev pub invariant-loop-w : goal.invariant-loop-w
invariant-loop-w l = (l.w ≤ 4) × (length l.m ≡ length l.initial.m) × RowDone (take_off l.off) l.i l.w l.initial.m l.m
