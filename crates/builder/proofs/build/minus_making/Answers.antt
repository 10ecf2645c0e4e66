use Rattle.builder.proofs.build.minus_making.Goals as goal

pub returns-in-Head : goal.returns-in-Head
returns-in-Head c = rw c.in-Head.is
