use Rattle.sets.proofs.HeadSets.{only_low, only_high}
use native.Mathlib.Omega.{arith}
use Rattle.sets.proofs.heads.only.Goals as goal

pub returns-then-i-lt-SET_LIMIT : goal.returns-then-i-lt-SET_LIMIT
returns-then-i-lt-SET_LIMIT c = only_low c.args.i c.only-low.result c.if-i-lt-SET_LIMIT.true (omega arith) c.only-low.ensures

pub returns : goal.returns
returns c = only_high c.args.i c.only-high.result c.if-i-lt-SET_LIMIT.false c.only-high.ensures
