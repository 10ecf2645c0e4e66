use mathlib.Core.Path.{◌≡◌}
use Prim.Native.Nat.{◌≤◌}
use lib.ListN.{length}
use Rattle.meeting.proofs.Notes.{RowsAre}
use Rattle.meeting.proofs.matrix.set_rows.Given as goal

abbrev pub invariant-loop-i : goal.invariant-loop-i
invariant-loop-i l = (l.i ≤ l.n) × (length l.m ≡ length l.initial.m) × RowsAre l.s l.i l.m
