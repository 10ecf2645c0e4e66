use Prim.Native.Nat.{◌≤◌}
use Rattle.meeting.proofs.Reading.{NoneMet}
use Rattle.meeting.proofs.rows.some_met.Given as goal

abbrev pub invariant-loop-i : goal.invariant-loop-i
invariant-loop-i l = (l.low ≤ l.i) × (l.i ≤ l.high) × NoneMet l.m l.low l.i
