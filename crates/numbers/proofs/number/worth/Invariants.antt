use Prim.Native.Nat.{◌≤◌, ◌<◌, ◌^◌}
use lib.ListN.{length}
use Rattle.numbers.proofs.Digits.{Left}
use Rattle.numbers.proofs.number.worth.Given as goal

abbrev pub invariant-loop-b : goal.invariant-loop-b
invariant-loop-b l = (length l.s ≤ 5) × (l.v < 10 ^ l.b-index) × Left l.s l.v l.b-index
