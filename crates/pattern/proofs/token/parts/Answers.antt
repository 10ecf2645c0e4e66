use Rattle.pattern.proofs.token.parts.Goals as goal

pub arity_of-requires : goal.arity_of-requires
arity_of-requires c = (c.requires.0, rw c.in-Head.is at c.requires.1)

pub returns-in-Head : goal.returns-in-Head
returns-in-Head c = rw c.in-Head.is c.arity_of.ensures
