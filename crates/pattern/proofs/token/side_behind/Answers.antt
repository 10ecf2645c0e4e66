use Rattle.pattern.proofs.Sides.{other_side}
use Rattle.pattern.proofs.token.side_behind.Goals as goal

pub returns-in-Not : goal.returns-in-Not
returns-in-Not c = rw c.in-Not.is (other_side c.args.plus)
