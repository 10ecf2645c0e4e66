use Rattle.sets.proofs.HeadSets.{bit_between}
use Rattle.sets.specs.Heads.{number_of}
use Rattle.sets.proofs.heads.between.Goals as goal

pub returns : goal.returns
returns c = let g = c.args in bit_between g.low g.high (number_of c.full-upto.result) (number_of c.full-below.result) (number_of c.minus.result) c.requires.0 c.full-upto.ensures c.full-below.ensures c.minus.ensures
