use Rattle.row.proofs.Laws.{laws}
use Rattle.row.proofs.promises.laws.Goals as goal

pub returns : goal.returns
returns c = laws
