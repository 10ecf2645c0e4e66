use Rattle.meeting.proofs.Laws.{laws}
use Rattle.meeting.proofs.promises.laws.Goals as goal

pub returns : goal.returns
returns c = laws
