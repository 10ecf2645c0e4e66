use Rattle.sets.proofs.SetLaws.{trailing_low}
use Rattle.sets.proofs.set.lowest.Goals as goal

pub returns : goal.returns
returns c = let l = trailing_low 64 c.args.s c.ranges.s.fits c.requires in record { small = l.0; member = l.1; none_below = l.2 }
