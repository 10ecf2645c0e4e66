use Rattle.day_log.proofs.Cases.{cases}
use Rattle.day_log.proofs.promises.cases.Goals as goal

pub returns : goal.returns
returns c = cases
