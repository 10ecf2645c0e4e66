use Prim.Native.Nat.{◌-◌, ◌≤◌}
use Rattle.pattern.specs.Limits.{variable_count}
use Rattle.leaf.specs.Leaf.{all_pairs, pairs_from}
use Rattle.leaf.proofs.PairLaws.{Sofar}
use Rattle.leaf.proofs.pairs.Given as goal

abbrev pub invariant-loop-x : goal.invariant-loop-x
invariant-loop-x l = (l.x ≤ variable_count) × Sofar (all_pairs l.a l.rows l.vis l.r l.q) (pairs_from l.a l.rows l.vis l.r l.q l.x (variable_count - l.x)) 0 l.to l.initial.out l.out

abbrev pub decreases-loop-x : goal.decreases-loop-x
decreases-loop-x l = variable_count - l.x
