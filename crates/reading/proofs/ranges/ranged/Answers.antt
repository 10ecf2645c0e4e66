use mathlib.Core.Path.{sym, ◌∙◌}
use native.Mathlib.Omega.{arith}
use Rattle.signature.proofs.Booleans.{not_true, not_false}
use Rattle.pattern.specs.Word.{form_of}
use Rattle.pattern.proofs.Opened.{some_own}
use Rattle.reading.proofs.RangeSteps.{walk_start, walk_end, walk_front}
use Rattle.reading.proofs.ranges.ranged.Goals as goal

pub loop-at-init : goal.loop-at-init
loop-at-init c = (omega arith, λ g. walk_start g)

pub right_front-requires : goal.right_front-requires
right_front-requires c = (walk_front (form_of c.classify-w.result) c.classify-w.ensures c.loop-at-test.true (c.loop-at.invariant.1 c.requires)).long

pub returns-then-not-right_front : goal.returns-then-not-right_front
returns-then-not-right_front c = λ g. (walk_front (form_of c.classify-w.result) c.classify-w.ensures c.loop-at-test.true (c.loop-at.invariant.1 g)).wrong (sym c.right_front.ensures ∙ not_true _ c.if-not-right_front.true-raw)

pub overflow_add-at : goal.overflow_add-at
overflow_add-at c = let w = walk_front (form_of c.classify-w.result) c.classify-w.ensures c.loop-at-test.true (c.loop-at.invariant.1 c.requires) in omega (arith, w.inside, c.own_words-at.ensures, c.well_formed)

pub loop-at-smaller : goal.loop-at-smaller
loop-at-smaller c = let w = walk_front (form_of c.classify-w.result) c.classify-w.ensures c.loop-at-test.true (c.loop-at.invariant.1 c.requires) in omega (arith, w.inside, c.own_words-at.ensures, some_own (form_of c.classify-w.result))

pub loop-at-preserved : goal.loop-at-preserved
loop-at-preserved c = let w = walk_front (form_of c.classify-w.result) c.classify-w.ensures c.loop-at-test.true (c.loop-at.invariant.1 c.requires) in (omega (arith, w.inside, c.own_words-at.ensures), λ g. rw c.own_words-at.ensures ((walk_front (form_of c.classify-w.result) c.classify-w.ensures c.loop-at-test.true (c.loop-at.invariant.1 g)).next (sym c.right_front.ensures ∙ not_false _ c.if-not-right_front.false-raw)))

pub returns : goal.returns
returns c = λ g. walk_end c.loop-at-test.false (c.loop-at.invariant.1 g)
