use Rattle.matching.proofs.Laws.{laws}
use Rattle.matching.proofs.promises.laws.Goals as goal

pub returns : goal.returns
returns c = laws
