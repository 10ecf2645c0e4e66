use Rattle.leaf.specs.Leaf.{Used}
use Rattle.leaf.proofs.used.Given as goal

abbrev pub invariant-loop-p : goal.invariant-loop-p
invariant-loop-p l = Used l.a l.rows l.r l.p l.u
