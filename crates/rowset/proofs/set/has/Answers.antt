use mathlib.Core.Path.{◌∙◌}
use Rattle.rowset.proofs.MemberLaws.{member_is}
use Rattle.rowset.proofs.set.has.Goals as goal

pub returns : goal.returns
returns c = c.has.ensures ∙ member_is _ _
