use Rattle.pattern.proofs.Within.{below_levels, below_low, from_low}
use Rattle.pattern.proofs.range.within.Goals as goal

pub returns-then-d-lt-LEVEL_BASE : goal.returns-then-d-lt-LEVEL_BASE
returns-then-d-lt-LEVEL_BASE c = below_levels c.args.low c.args.high c.args.d c.if-d-lt-LEVEL_BASE.true

pub returns-then-level-low : goal.returns-then-level-low
returns-then-level-low c = below_low c.args.low c.args.high c.args.d c.if-d-lt-LEVEL_BASE.false c.if-level-low.true

pub returns : goal.returns
returns c = from_low c.args.low c.args.high c.args.d c.if-d-lt-LEVEL_BASE.false c.if-level-low.false
