use mathlib.Core.Path.{◌≡◌}
use Prim.Native.Nat.{◌≤◌}
use lib.ListN.{length}
use Rattle.rowset.specs.Limits.{row_limit}
use Rattle.meeting.specs.Lists.{GivenLists}
use Rattle.meeting.proofs.Listing.{Now}
use Rattle.meeting.proofs.lists.gather_lists.Given as goal

abbrev pub invariant-loop-j : goal.invariant-loop-j
invariant-loop-j l = (length l.cur ≡ row_limit) × (l._j ≤ l.n) × ((g : GivenLists l.t l.a l.n) → Now g l.at l.q l._j l.cur)
