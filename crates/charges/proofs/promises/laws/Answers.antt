use Rattle.charges.proofs.Laws.{laws}
use Rattle.charges.proofs.promises.laws.Goals as goal

pub returns : goal.returns
returns c = laws
