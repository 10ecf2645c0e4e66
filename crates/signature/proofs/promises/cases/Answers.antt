use Rattle.signature.proofs.Cases.{cases}
use Rattle.signature.proofs.promises.cases.Goals as goal

pub returns : goal.returns
returns c = cases
