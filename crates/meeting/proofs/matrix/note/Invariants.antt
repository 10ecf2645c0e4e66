use mathlib.Core.Path.{◌≡◌}
use Prim.Native.Nat.{◌≤◌}
use lib.ListN.{length}
use Rattle.rowset.specs.Member.{member}
use Rattle.meeting.specs.Descent.{Noted}
use Rattle.rowset.proofs.WordLaws.{among}
use Rattle.meeting.proofs.matrix.note.Given as goal

abbrev pub invariant-loop-w : goal.invariant-loop-w
invariant-loop-w l = (l.w ≤ 4) × (length l.m ≡ length l.initial.m) × Noted (among l.s l.w) (member l.off) l.initial.m l.m
