use Rattle.witness.proofs.Laws.{laws}
use Rattle.witness.proofs.promises.laws.Goals as goal

pub returns : goal.returns
returns c = laws
