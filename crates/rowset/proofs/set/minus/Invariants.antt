use mathlib.Core.Path.{◌≡◌}
use Prim.Native.Nat.{◌≤◌}
use lib.ListN.{length}
use Rattle.rowset.proofs.MemberLaws.{Less}
use Rattle.rowset.proofs.set.minus.Given as goal

abbrev pub invariant-loop-w : goal.invariant-loop-w
invariant-loop-w l = (l.w ≤ 4) × (length l.r ≡ 4) × Less l.s l.x l.r l.w
