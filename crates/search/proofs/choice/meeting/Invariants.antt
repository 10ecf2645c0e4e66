use mathlib.Core.Path.{◌≡◌}
use Prim.Native.Nat.{◌≤◌}
use lib.ListN.{length}
use Rattle.rowset.specs.Member.{set_words}
use Rattle.search.specs.Choice.{GivenMeeting, Meeting}
use Rattle.search.proofs.choice.meeting.Given as goal

abbrev pub invariant-loop-r : goal.invariant-loop-r
invariant-loop-r l = (l.r ≤ l.n) × (length l.live ≡ set_words) × ((g : GivenMeeting l.t l.a l.rows l.n l.q) → Meeting g l.s l.r l.live)
