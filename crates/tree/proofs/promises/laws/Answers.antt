use Rattle.tree.proofs.Laws.{laws}
use Rattle.tree.proofs.promises.laws.Goals as goal

pub returns : goal.returns
returns c = laws
