use Rattle.decoding.proofs.Marks.{number_not, number_so}
use Rattle.decoding.proofs.decode.declares_number.Goals as goal

pub returns-then-arity_of-gt0 : goal.returns-then-arity_of-gt0
returns-then-arity_of-gt0 c = number_not c.args.t.now c.args.c _ c.arity_of.ensures c.if-arity_of-gt0.true

pub returns : goal.returns
returns c = number_so c.args.t.now c.args.c _ _ c.arity_of.ensures c.if-arity_of-gt0.false c.argument_of.ensures
