use Rattle.table.proofs.CaseT.{case_t}
use Rattle.table.proofs.promises.case_t.Goals as goal

pub returns : goal.returns
returns c = case_t
