use Rattle.leaf.specs.Leaf.{cell_pairs}
use Rattle.leaf.proofs.PairLaws.{Sofar}
use Rattle.leaf.proofs.variable_pairs.Given as goal

abbrev pub invariant-loop-p : goal.invariant-loop-p
invariant-loop-p l = Sofar (cell_pairs l.a l.rows l.vis l.r l.x l.q) (cell_pairs l.a l.rows l.vis l.r l.x l.p) l.at l.to l.initial.out l.out
