use mathlib.Core.Path.{◌≡◌}
use Prim.Native.Nat.{◌≤◌}
use lib.ListN.{length}
use Rattle.meeting.specs.Descent.{cell_of_row}
use Rattle.meeting.specs.Part.{same_cell, apart_cell}
use Rattle.meeting.proofs.ClassLaws.{ChoseWords}
use Rattle.meeting.proofs.classes.sort.Given as goal

abbrev pub invariant-loop-w : goal.invariant-loop-w
invariant-loop-w l = (l.w ≤ 4)
    × (length l.same ≡ 4)
    × (length l.clash ≡ 4)
    × ChoseWords (λ q. same_cell l.c (cell_of_row l.a l.cur q)) l.s l.w l.same
    × ChoseWords (λ q. apart_cell l.c (cell_of_row l.a l.cur q)) l.s l.w l.clash
