use native.Mathlib.Omega.{arith}
use Rattle.decoding.proofs.Sizes.{first_passed}
use Rattle.decoding.proofs.decode.lowest_head.Goals as goal

pub loop-c-preserved : goal.loop-c-preserved
loop-c-preserved c = (omega arith, c.loop-c.invariant.1, omega arith, first_passed _ _ _ _ _ _ c.loop-c-test.true c.words_of.ensures c.if-words_of-sizes.false c.loop-c.invariant.3)
