use Rattle.sets.proofs.SetLaws.{word_wide, size_members, size_none}
use Rattle.sets.proofs.set.size.Goals as goal

pub returns : goal.returns
returns c = (size_members c.args.s (word_wide c.args.s c.ranges.s.fits), size_none c.args.s)
