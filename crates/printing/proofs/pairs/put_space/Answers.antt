use Rattle.printing.proofs.PairLaws.{space_room, space_put, space_none}
use Rattle.printing.proofs.pairs.put_space.Goals as goal

pub put-requires : goal.put-requires
put-requires c = space_room c.args.from c.args.at _ c.if-from-at.true c.requires

pub returns-then-from-at : goal.returns-then-from-at
returns-then-from-at c = space_put c.args.from c.args.at c.if-from-at.true c.put.ensures

pub returns : goal.returns
returns c = space_none c.args.from c.args.at c.args.out.now c.if-from-at.false
