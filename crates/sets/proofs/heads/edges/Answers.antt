use Rattle.sets.proofs.HeadSets.{bit_edge}
use Rattle.sets.specs.Heads.{number_of}
use Rattle.sets.proofs.heads.edges.Goals as goal

pub returns : goal.returns
returns c = let s = c.args.s in bit_edge (number_of s) (number_of c.lowered-b.result) (number_of c.minus-last.result) (number_of c.minus-first.result) (number_of c.join.result) c.lowered-b.ensures c.minus-last.ensures c.minus-first.ensures c.join.ensures
