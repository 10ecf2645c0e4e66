use Rattle.text.proofs.Laws.{laws}
use Rattle.text.proofs.promises.laws.Goals as goal

pub returns : goal.returns
returns c = laws
