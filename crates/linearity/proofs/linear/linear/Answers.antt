use mathlib.Core.Path.{◌∙◌}
use Rattle.linearity.proofs.LinearSteps.{whole_told}
use Rattle.pattern.proofs.Opened.{opens_whole}
use Rattle.linearity.proofs.linear.linear.Goals as goal

pub linear_at-requires : goal.linear_at-requires
linear_at-requires c = opens_whole c.requires

pub returns : goal.returns
returns c = λ g. c.is_some.ensures ∙ whole_told g.pattern c.linear_at.result (c.linear_at.ensures (opens_whole g))
