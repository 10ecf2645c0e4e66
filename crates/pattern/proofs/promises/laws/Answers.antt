use Rattle.pattern.proofs.Laws.{laws}
use Rattle.pattern.proofs.promises.laws.Goals as goal

pub returns : goal.returns
returns c = laws
