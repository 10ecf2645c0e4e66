use Rattle.run.proofs.CallLaws.{laws}
use Rattle.run.proofs.promises.laws.Goals as goal

pub returns : goal.returns
returns c = laws
