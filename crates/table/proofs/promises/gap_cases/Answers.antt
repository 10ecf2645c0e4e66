use Rattle.table.proofs.GapCases.{gap_cases}
use Rattle.table.proofs.promises.gap_cases.Goals as goal

pub returns : goal.returns
returns c = gap_cases
