use Rattle.values.proofs.Laws.{laws}
use Rattle.values.proofs.promises.laws.Goals as goal

pub returns : goal.returns
returns c = laws
