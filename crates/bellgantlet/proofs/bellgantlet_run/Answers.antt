use Rattle.bellgantlet.proofs.Hosts.{as_run}
use Rattle.bellgantlet.proofs.bellgantlet_run.Goals as goal

pub returns : goal.returns
returns c = as_run _ _ c.from.ensures c.args.signature.now c.args.tree.now c.args.booking.now c.run.ensures
