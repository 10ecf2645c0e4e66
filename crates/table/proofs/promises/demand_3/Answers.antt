use Rattle.table.proofs.Demand3Facts.{demand_3}
use Rattle.table.proofs.promises.demand_3.Goals as goal

pub returns : goal.returns
returns c = demand_3
