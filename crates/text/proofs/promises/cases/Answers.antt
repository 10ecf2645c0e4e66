use Rattle.text.proofs.Cases.{cases}
use Rattle.text.proofs.promises.cases.Goals as goal

pub returns : goal.returns
returns c = cases
