use native.Mathlib.Omega.{arith}
use lib.ListN.{length-set}
use Rattle.leaf.proofs.LeafLaws.{default_short, default_wrote}
use Rattle.leaf.proofs.default_leaf.Goals as goal

pub returns-then-out-lt-DEFAULT_WORDS : goal.returns-then-out-lt-DEFAULT_WORDS
returns-then-out-lt-DEFAULT_WORDS c = default_short _ _ c.if-out-lt-DEFAULT_WORDS.true

pub bounds-out-0 : goal.bounds-out-0
bounds-out-0 c = omega (arith, c.if-out-lt-DEFAULT_WORDS.false)

pub bounds-rows-18432 : goal.bounds-rows-18432
bounds-rows-18432 c = omega (arith, c.requires)

pub bounds-out-1 : goal.bounds-out-1
bounds-out-1 c = simp length-set (omega (arith, c.if-out-lt-DEFAULT_WORDS.false))

pub shape_of-out : goal.shape_of-out
shape_of-out c = simp length-set

pub returns : goal.returns
returns c = default_wrote _ _ c.if-out-lt-DEFAULT_WORDS.false
