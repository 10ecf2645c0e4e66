use Rattle.row.proofs.Cases.{cases}
use Rattle.row.proofs.promises.cases.Goals as goal

pub returns : goal.returns
returns c = cases
