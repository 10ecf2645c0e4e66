use Prim.Native.Nat.{◌*◌, ◌≤◌}
use Rattle.rowset.proofs.MemberLaws.{NoneIn}
use Rattle.rowset.proofs.set.first_from.Given as goal

abbrev pub invariant-loop-j : goal.invariant-loop-j
invariant-loop-j l = (l.i ≤ l.j) × (l.j ≤ 4) × NoneIn l.s (64 * l.i) l.j
