use Rattle.sets.proofs.SetLaws.{bit_of_or}
use Rattle.sets.proofs.set.join.Goals as goal

pub returns : goal.returns
returns c = λ j. bit_of_or c.args.a c.args.b j
