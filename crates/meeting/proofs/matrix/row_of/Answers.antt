use Rattle.meeting.proofs.Reading.{part_is}
use Rattle.meeting.proofs.matrix.row_of.Goals as goal

pub returns : goal.returns
returns c = part_is c.args.m.now _ c.args.i c.copy_from_slice.ensures.after
