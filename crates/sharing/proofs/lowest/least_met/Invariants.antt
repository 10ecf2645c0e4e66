use Prim.Native.Nat.{◌-◌, ◌≤◌}
use Rattle.sharing.specs.Lowest.{LeastMet}
use Rattle.sharing.proofs.lowest.least_met.Given as goal

abbrev pub invariant-loop-i : goal.invariant-loop-i
invariant-loop-i l = (l.low ≤ l.i) × (l.i ≤ l.high) × LeastMet l.m l.low l.i l.least
