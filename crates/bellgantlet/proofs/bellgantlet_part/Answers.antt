use Rattle.bellgantlet.proofs.Hosts.{no_part, a_part}
use Rattle.bellgantlet.proofs.bellgantlet_part.Goals as goal

pub returns-then-p-eq0 : goal.returns-then-p-eq0
returns-then-p-eq0 c = no_part c.args.signature.now c.args.booking.now c.args.place _ c.part-p.ensures _ c.part_number-n.ensures c.if-p-eq0.true

pub returns : goal.returns
returns c = a_part c.args.signature.now c.args.booking.now c.args.place _ c.part-p.ensures c.if-p-eq0.false
