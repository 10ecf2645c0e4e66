use Prim.Native.Nat.{◌≤◌}
use lib.ListN.{length}
use Rattle.store.proofs.Reading.{Zeros}
use Rattle.store.proofs.layout.zeros.Given as goal

abbrev pub invariant-loop-x : goal.invariant-loop-x
invariant-loop-x l = (l.x-index ≤ length l.w) × Zeros l.w l.bits l.x-index
