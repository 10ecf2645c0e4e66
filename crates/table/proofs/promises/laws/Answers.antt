use Rattle.table.proofs.Laws.{laws}
use Rattle.table.proofs.promises.laws.Goals as goal

pub returns : goal.returns
returns c = laws
