use Rattle.table.proofs.GapFacts.{gap_laws}
use Rattle.table.proofs.promises.gaps.Goals as goal

pub returns : goal.returns
returns c = gap_laws
