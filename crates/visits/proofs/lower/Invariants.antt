use Prim.Native.Nat.{◌-◌, ◌≤◌}
use Rattle.rowset.specs.Member.{member}
use Rattle.visits.proofs.CursorLaws.{Low}
use Rattle.visits.proofs.lower.Given as goal

abbrev pub invariant-loop-from : goal.invariant-loop-from
invariant-loop-from l = (l.from ≤ l.n) × Low (member l.re) l.initial.cur l.cur l.from

abbrev pub decreases-loop-from : goal.decreases-loop-from
decreases-loop-from l = l.n - l.from
