use Rattle.sets.proofs.HeadSets.{some_low, none_low}
use Rattle.sets.proofs.heads.is_empty.Goals as goal

pub returns-then-s-gt0 : goal.returns-then-s-gt0
returns-then-s-gt0 c = let s = c.args.s in some_low s.high s.low c.if-s-gt0.true

pub returns : goal.returns
returns c = let s = c.args.s in none_low s.high s.low c.if-s-gt0.false
