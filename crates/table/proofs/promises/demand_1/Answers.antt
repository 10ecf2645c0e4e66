use Rattle.table.proofs.Demand1Facts.{demand_1}
use Rattle.table.proofs.promises.demand_1.Goals as goal

pub returns : goal.returns
returns c = demand_1
