use Prim.Native.Nat.{◌-◌}
use Rattle.deciding.specs.Decide.{Judging}
use Rattle.deciding.proofs.Judged.{Mid}
use Rattle.deciding.proofs.rules.by_rules.Given as goal

abbrev pub invariant-loop-i : goal.invariant-loop-i
invariant-loop-i l = (g : Judging l.t l.table l.b) → Mid g l.at l.i
