use Rattle.stepping.proofs.Laws.{laws}
use Rattle.stepping.proofs.promises.laws.Goals as goal

pub returns : goal.returns
returns c = laws
