use Rattle.pattern.proofs.Opened.{opens_whole}
use Rattle.weighing.proofs.WeightSteps.{whole_light, whole_heavy}
use Rattle.weighing.proofs.weight.weigh.Goals as goal

pub weigh_plus-requires : goal.weigh_plus-requires
weigh_plus-requires c = opens_whole c.requires

pub returns-in_err-n : goal.returns-in_err-n
returns-in_err-n c = λ g. rw c.from_residual.ensures (whole_heavy g.pattern (c.in_err-n.ensures (opens_whole g)))

pub returns : goal.returns
returns c = λ g. whole_light g.pattern _ _ (c.in_ok-n.ensures (opens_whole g))
