use mathlib.Core.Path.{◌≡◌}
use Prim.Native.Nat.{◌-◌, ◌≤◌}
use lib.ListN.{length}
use Rattle.rowset.specs.Member.{member, set_words}
use Rattle.path.specs.State.{kept_of}
use Rattle.rowset.proofs.MemberLaws.{Settled}
use Rattle.column.proofs.keep.Given as goal

abbrev pub invariant-loop-from : goal.invariant-loop-from
invariant-loop-from l = (l.from ≤ l.n) × (length l.next ≡ set_words) × Settled (kept_of l.a l.rows (member l.s) (member l.re) l.cur l.j) (member l.s) l.next l.from

abbrev pub decreases-loop-from : goal.decreases-loop-from
decreases-loop-from l = l.n - l.from
