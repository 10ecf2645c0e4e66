use Prim.Native.Nat.{◌^◌, ◌<◌}
use lib.Count.{ones}
use Rattle.meeting.specs.Descent.{cell_of_row}
use Rattle.meeting.specs.Part.{same_cell, apart_cell}
use Rattle.rowset.proofs.WordLaws.{Left}
use Rattle.meeting.proofs.ClassLaws.{Chose}
use Rattle.meeting.proofs.classes.sort_word.Given as goal

abbrev pub invariant-loop-left : goal.invariant-loop-left
invariant-loop-left l = (l.left < 2 ^ 64)
    × Left l.base l.word l.left
    × Chose (λ q. same_cell l.c (cell_of_row l.a l.cur q)) l.base l.word l.left l.same
    × Chose (λ q. apart_cell l.c (cell_of_row l.a l.cur q)) l.base l.word l.left l.clash

abbrev pub decreases-loop-left : goal.decreases-loop-left
decreases-loop-left l = ones l.left
