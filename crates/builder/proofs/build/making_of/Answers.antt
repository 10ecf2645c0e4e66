use Rattle.builder.proofs.build.making_of.Goals as goal

pub plus_making-requires : goal.plus_making-requires
plus_making-requires c = c.requires

pub returns-then-plus : goal.returns-then-plus
returns-then-plus c = rw c.if-plus.true c.plus_making.ensures

pub returns : goal.returns
returns c = rw c.if-plus.false c.minus_making.ensures
