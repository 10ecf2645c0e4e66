use Rattle.sets.proofs.SetLaws.{bit_without}
use Rattle.sets.proofs.set.without.Goals as goal

pub returns : goal.returns
returns c = λ j. bit_without c.args.s c.args.i j c.ranges.s.fits c.requires
