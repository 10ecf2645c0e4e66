use mathlib.Core.Path.{◌≡◌}
use Prim.Native.Nat.{◌^◌, ◌<◌}
use lib.Count.{ones}
use lib.ListN.{length}
use Rattle.rowset.specs.Member.{member}
use Rattle.meeting.specs.Descent.{Noted}
use Rattle.rowset.proofs.WordLaws.{Left, gone}
use Rattle.meeting.proofs.matrix.note_word.Given as goal

abbrev pub invariant-loop-left : goal.invariant-loop-left
invariant-loop-left l = (l.left < 2 ^ 64) × (length l.m ≡ length l.initial.m) × Left l.base l.word l.left × Noted (gone l.base l.word l.left) (member l.off) l.initial.m l.m

abbrev pub decreases-loop-left : goal.decreases-loop-left
decreases-loop-left l = ones l.left
