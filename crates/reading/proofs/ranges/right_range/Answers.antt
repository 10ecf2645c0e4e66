use Rattle.reading.proofs.RangeSteps.{falling_range, rising_range}
use Rattle.reading.proofs.ranges.right_range.Goals as goal

pub returns-then-high-low : goal.returns-then-high-low
returns-then-high-low c = falling_range c.args.low c.args.high c.if-high-low.true

pub returns : goal.returns
returns c = rising_range c.args.low c.args.high c.if-high-low.false
