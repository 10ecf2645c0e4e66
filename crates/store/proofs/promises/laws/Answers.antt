use Rattle.store.proofs.Laws.{laws}
use Rattle.store.proofs.promises.laws.Goals as goal

pub returns : goal.returns
returns c = laws
