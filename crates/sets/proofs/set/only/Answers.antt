use Rattle.sets.proofs.SetLaws.{bit_only}
use Rattle.sets.proofs.set.only.Goals as goal

pub returns : goal.returns
returns c = λ j. bit_only c.args.i j c.requires
