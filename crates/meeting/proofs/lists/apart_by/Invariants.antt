use Prim.Native.Nat.{◌≤◌}
use Rattle.meeting.specs.Lists.{GivenLists, rows_in}
use Rattle.meeting.specs.Rows.{Matrix}
use Rattle.meeting.proofs.Listing.{Apart}
use Rattle.meeting.proofs.lists.apart_by.Given as goal

abbrev pub invariant-loop-j : goal.invariant-loop-j
invariant-loop-j l = (l._j ≤ l.n) × ((g : GivenLists l.t l.a l.n) (M : Matrix (rows_in g.rss) l.m) → Apart g l.m M l.at l.low l._j)
