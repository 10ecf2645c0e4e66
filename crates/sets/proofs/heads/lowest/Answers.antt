use Rattle.sets.proofs.HeadSets.{lowest_low, lowest_high, high_some}
use Rattle.sets.proofs.SetLaws.{trailing_low}
use lib.Arith.{le-zero}
use lib.Count.{trailing_le}
use native.Mathlib.Omega.{arith}
use Rattle.sets.proofs.heads.lowest.Goals as goal

pub returns-then-s-gt0 : goal.returns-then-s-gt0
returns-then-s-gt0 c = let s = c.args.s in lowest_low s.high s.low _ (trailing_low 64 s.low c.struct_known-then-s-gt0-1.given.0.fits c.if-s-gt0.true)

pub overflow_add-result : goal.overflow_add-result
overflow_add-result c = omega (arith, trailing_le 64 c.args.s.high)

pub returns : goal.returns
returns c = let s = c.args.s in lowest_high s.high s.low _ (le-zero c.if-s-gt0.false) (trailing_low 64 s.high c.struct_known-2-1.given.1.0.fits (high_some s.high s.low c.requires c.if-s-gt0.false))
