use Rattle.matching.proofs.GivenSteps.{given_whole}
use Rattle.matching.proofs.takes.takes.Goals as goal

pub fits-requires : goal.fits-requires
fits-requires c = given_whole c.requires

pub returns : goal.returns
returns c = λ g. c.fits.ensures (given_whole g) 0
