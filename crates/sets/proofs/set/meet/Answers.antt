use Rattle.sets.proofs.SetLaws.{bit_of_and}
use Rattle.sets.proofs.set.meet.Goals as goal

pub returns : goal.returns
returns c = λ j. bit_of_and c.args.a c.args.b j
