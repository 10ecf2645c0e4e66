use Rattle.tree.proofs.Cases.{cases}
use Rattle.tree.proofs.promises.cases.Goals as goal

pub returns : goal.returns
returns c = cases
