use Rattle.store.proofs.ChangeFacts.{emptied}
use Rattle.store.proofs.change.clear.Goals as goal

pub returns : goal.returns
returns c = emptied c.args.table.now c.fill.new.self c.requires (c.fill.ensures.after (λ y e. e))
