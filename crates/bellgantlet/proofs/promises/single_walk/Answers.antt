use Rattle.bellgantlet.proofs.SingleWalk.{single_walk}
use Rattle.bellgantlet.proofs.promises.single_walk.Goals as goal

pub returns : goal.returns
returns c = single_walk
