use mathlib.Core.Path.{◌≡◌}
use mathlib.Core.Bool.{true}
use Prim.Native.Nat.{◌-◌, ◌≤◌, ◌<◌}
use lib.ListN.{length}
use Rattle.rowset.specs.Member.{member, set_words}
use Rattle.path.specs.State.{real_of}
use Rattle.rowset.proofs.MemberLaws.{Settled}
use Rattle.visits.proofs.real.Given as goal

abbrev pub invariant-loop-r : goal.invariant-loop-r
invariant-loop-r l = (l.r ≤ l.n) × (l.r < l.n → member l.s l.r ≡ true) × (length l.re ≡ set_words) × Settled (real_of l.rows (member l.s) l.cur l.ncols) (member l.s) l.re l.r

abbrev pub decreases-loop-r : goal.decreases-loop-r
decreases-loop-r l = l.n - l.r
