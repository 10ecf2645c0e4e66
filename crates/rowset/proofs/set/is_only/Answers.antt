use Rattle.rowset.proofs.MemberLaws.{only_told}
use Rattle.rowset.proofs.set.is_only.Goals as goal

pub returns : goal.returns
returns c = only_told _ _ _ c.args.i c.put.ensures c.minus-others.ensures _ c.first_in.ensures
