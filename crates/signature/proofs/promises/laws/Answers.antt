use Rattle.signature.proofs.Laws.{laws}
use Rattle.signature.proofs.promises.laws.Goals as goal

pub returns : goal.returns
returns c = laws
