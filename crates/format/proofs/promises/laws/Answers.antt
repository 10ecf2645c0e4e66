use Rattle.format.proofs.Laws.{laws}
use Rattle.format.proofs.promises.laws.Goals as goal

pub returns : goal.returns
returns c = laws
