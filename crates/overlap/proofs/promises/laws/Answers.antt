use Rattle.overlap.proofs.Laws.{laws}
use Rattle.overlap.proofs.promises.laws.Goals as goal

pub returns : goal.returns
returns c = laws
