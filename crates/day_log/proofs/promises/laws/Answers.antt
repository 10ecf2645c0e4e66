use Rattle.day_log.proofs.Laws.{laws}
use Rattle.day_log.proofs.promises.laws.Goals as goal

pub returns : goal.returns
returns c = laws
