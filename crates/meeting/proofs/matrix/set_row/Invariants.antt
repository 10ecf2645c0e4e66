use mathlib.Core.Path.{◌≡◌}
use Prim.Native.Nat.{◌≤◌}
use lib.ListN.{length}
use Rattle.meeting.proofs.Notes.{RowDone, put_in}
use Rattle.meeting.proofs.matrix.set_row.Given as goal

abbrev pub invariant-loop-w : goal.invariant-loop-w
invariant-loop-w l = (l.w ≤ 4) × (length l.m ≡ length l.initial.m) × RowDone (put_in l.s) l.i l.w l.initial.m l.m
