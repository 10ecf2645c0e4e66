use Prim.Native.Nat.{◌+◌, ◌-◌, ◌*◌, ◌≤◌}
use mathlib.Core.Path.{◌≡◌}
use lib.ListN.{length}
use Rattle.rowset.specs.Member.{member, FirstIn}
use Rattle.meeting.specs.Descent.{StandingArgs, Standing}
use Rattle.meeting.proofs.Descending.{Now, Classed}
use Rattle.rowset.specs.Limits.{row_limit}
use Rattle.meeting.proofs.visit.+arguments_take_class_visit.Given as goal

abbrev pub decreases-visit : goal.decreases-visit
decreases-visit l = 3 * l.deep + 2

abbrev pub decreases-take_class : goal.decreases-take_class
decreases-take_class l = 3 * l.deep + 1

abbrev pub decreases-arguments : goal.decreases-arguments
decreases-arguments l = 3 * l.deep + 3

abbrev pub invariant-arguments-loop-j : goal.invariant-arguments-loop-j
invariant-arguments-loop-j l = (length l.m ≡ length l.initial.m) × (l._j ≤ l.n) × ((g : StandingArgs l.t l.a (member l.s) l.n l.deep l.initial.cur) → Now g l.initial.m l._j l.cur l.m)

abbrev pub invariant-visit-loop-i : goal.invariant-visit-loop-i
invariant-visit-loop-i l = (length l.m ≡ length l.initial.m) × FirstIn l.left row_limit l.i × ((g : Standing l.t l.a (member l.s) l.deep l.initial.cur) → Classed g l.initial.m l.left l.cur l.m)

abbrev pub decreases-visit-loop-i : goal.decreases-visit-loop-i
decreases-visit-loop-i l = row_limit - l.i
