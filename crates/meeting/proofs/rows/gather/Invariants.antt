use mathlib.Core.Path.{◌≡◌}
use Prim.Native.Nat.{◌-◌}
use lib.ListN.{length}
use Rattle.rowset.specs.Limits.{row_limit}
use Rattle.meeting.specs.Rows.{GivenGather}
use Rattle.meeting.proofs.Gathering.{Now}
use Rattle.meeting.proofs.rows.gather.Given as goal

abbrev pub invariant-loop-from : goal.invariant-loop-from
invariant-loop-from l = (length l.cur ≡ row_limit) × ((g : GivenGather l.a l.at l.n l.initial.cur) → Now g l.from l.q l.cur)

abbrev pub decreases-loop-from : goal.decreases-loop-from
decreases-loop-from l = length l.a - l.from
