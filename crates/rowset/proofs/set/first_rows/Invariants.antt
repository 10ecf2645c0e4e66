use mathlib.Core.Path.{◌≡◌}
use Prim.Native.Nat.{◌≤◌}
use lib.ListN.{length}
use Rattle.rowset.specs.Member.{set_words}
use Rattle.rowset.proofs.MemberLaws.{Below}
use Rattle.rowset.proofs.set.first_rows.Given as goal

abbrev pub invariant-loop-r : goal.invariant-loop-r
invariant-loop-r l = (l.r ≤ l.n) × (length l.s ≡ set_words) × Below l.s l.r
