use Rattle.table.proofs.Laws.{demand_2}
use Rattle.table.proofs.promises.demand_2.Goals as goal

pub returns : goal.returns
returns c = demand_2
