use Rattle.pattern.proofs.Cases.{cases}
use Rattle.pattern.proofs.promises.cases.Goals as goal

pub returns : goal.returns
returns c = cases
