use Rattle.views.proofs.Laws.{laws}
use Rattle.views.proofs.promises.laws.Goals as goal

pub returns : goal.returns
returns c = laws
