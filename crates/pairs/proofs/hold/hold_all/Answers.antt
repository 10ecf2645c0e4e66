-- No row is held at first.
use Rattle.std.proofs.Common.{length}
use Rattle.pairs.proofs.Holds.{none_held}
use Rattle.pairs.proofs.hold.hold_all.Goals as goal

pub loop-w-init : goal.loop-w-init
loop-w-init c = none_held c.requires.0 c.args.rows.now (length c.args.work.now) c.requires.1 c.requires.2
