use Rattle.values.specs.Takes.{GivenTakes}
use Rattle.values.proofs.Taking.{Now}
use Rattle.values.proofs.takes.takes.Given as goal

abbrev pub invariant-loop-c : goal.invariant-loop-c
invariant-loop-c l = (g : GivenTakes l.t l.row l.b) → Now g l.y l.c-index
