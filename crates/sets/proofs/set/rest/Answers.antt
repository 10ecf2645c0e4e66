use Rattle.sets.proofs.SetLaws.{bit_rest}
use Rattle.sets.proofs.set.rest.Goals as goal

pub returns : goal.returns
returns c = λ b l j. bit_rest c.args.s b j l.member l.none_below
