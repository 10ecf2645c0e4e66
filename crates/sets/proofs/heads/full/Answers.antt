use Rattle.sets.proofs.HeadSets.{full_low, full_high}
use native.Mathlib.Omega.{arith}
use Rattle.sets.proofs.heads.full.Goals as goal

pub returns-then-n-le-SET_LIMIT : goal.returns-then-n-le-SET_LIMIT
returns-then-n-le-SET_LIMIT c = full_low c.args.n c.full-low.result c.if-n-le-SET_LIMIT.true (omega arith) c.full-low.ensures

pub returns : goal.returns
returns c = full_high c.args.n c.full-high.result c.if-n-le-SET_LIMIT.false c.full-high.ensures
