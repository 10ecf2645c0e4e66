use Rattle.bellgantlet.proofs.Hosts.{as_decided}
use Rattle.bellgantlet.proofs.bellgantlet_decide.Goals as goal

pub returns : goal.returns
returns c = as_decided _ _ c.from.ensures c.args.signature.now c.args.table.now c.args.booking.now c.decide.ensures
