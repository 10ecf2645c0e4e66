use Rattle.charges.proofs.Cases.{cases}
use Rattle.charges.proofs.promises.cases.Goals as goal

pub returns : goal.returns
returns c = cases
