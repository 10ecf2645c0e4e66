use native.Mathlib.Omega.{arith}
use Rattle.rowset.proofs.WordLaws.{cut_below, all_below}
use Rattle.rowset.proofs.set.below.Goals as goal

pub returns-then-n-base-lt-WORD : goal.returns-then-n-base-lt-WORD
returns-then-n-base-lt-WORD c = let e = c.args in cut_below e.base e.word e.n c.full-low.result c.meet.result (omega arith) c.full-low.ensures c.meet.ensures

pub returns : goal.returns
returns c = let e = c.args in all_below e.base e.word e.n (omega (arith, c.if-n-base-lt-WORD.false))
