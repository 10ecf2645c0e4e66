use Rattle.bellgantlet.proofs.Hosts.{by_case}
use Rattle.bellgantlet.proofs.bellgantlet_enter.Goals as goal

pub returns-in-Entered : goal.returns-in-Entered
returns-in-Entered c = by_case c.args.signature.now c.args.number c.args.plan c.args.pattern.now c.args.table.now c.args.witness.now _ _ c.enter-e.new.table c.enter-e.new.witness c.in-Entered.is c.enter-e.ensures.enter

pub returns-in-Refused : goal.returns-in-Refused
returns-in-Refused c = rw c.from.ensures (by_case c.args.signature.now c.args.number c.args.plan c.args.pattern.now c.args.table.now c.args.witness.now _ _ c.enter-e.new.table c.enter-e.new.witness c.in-Refused.is c.enter-e.ensures.enter)

pub returns-in-Shares : goal.returns-in-Shares
returns-in-Shares c = by_case c.args.signature.now c.args.number c.args.plan c.args.pattern.now c.args.table.now c.args.witness.now _ _ c.enter-e.new.table c.enter-e.new.witness c.in-Shares.is c.enter-e.ensures.enter
