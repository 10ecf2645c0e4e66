use Rattle.sets.proofs.SetLaws.{bit_with}
use Rattle.sets.proofs.set.with.Goals as goal

pub returns : goal.returns
returns c = λ j. bit_with c.args.s c.args.i j c.requires
