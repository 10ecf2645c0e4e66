use Rattle.sets.proofs.HeadSets.{without_low, without_high}
use native.Mathlib.Omega.{arith}
use Rattle.sets.proofs.heads.without.Goals as goal

pub returns-then-i-lt-SET_LIMIT : goal.returns-then-i-lt-SET_LIMIT
returns-then-i-lt-SET_LIMIT c = let s = c.args.s in without_low s.high s.low c.args.i c.without-low.result (omega arith) c.if-i-lt-SET_LIMIT.true (omega arith) c.without-low.ensures

pub returns : goal.returns
returns c = let s = c.args.s in without_high s.high s.low c.args.i c.without-high.result (omega arith) c.if-i-lt-SET_LIMIT.false c.without-high.ensures
