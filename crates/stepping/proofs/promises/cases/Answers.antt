use Rattle.stepping.proofs.Cases.{cases}
use Rattle.stepping.proofs.promises.cases.Goals as goal

pub returns : goal.returns
returns c = cases
