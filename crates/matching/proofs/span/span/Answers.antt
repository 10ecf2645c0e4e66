use mathlib.Core.Path.{refl}
use native.Mathlib.Omega.{arith}
use lib.ListN.{get_or}
use Rattle.signature.proofs.KnownFacts.{long}
use Rattle.pattern.specs.Read.{form}
use Rattle.pattern.specs.Word.{form_of}
use Rattle.pattern.proofs.Opened.{some_own}
use Rattle.pattern.proofs.ReadSteps.{small}
use Rattle.matching.proofs.SpanLaws.{left_start, left_done, left_next}
use Rattle.matching.proofs.span.span.Goals as goal

pub loop-left-init : goal.loop-left-init
loop-left-init c = λ o. left_start o

pub offset_bounds-p-at : goal.offset_bounds-p-at
offset_bounds-p-at c = let s = left_next c.requires.known _ refl c.loop-left-test.true (c.loop-left.invariant c.requires) in omega (arith, s.below, s.within, some_own (form (get_or c.args.p.now c.loop-left.at 0)), c.well_formed)

pub bounds-p-at : goal.bounds-p-at
bounds-p-at c = let s = left_next c.requires.known _ refl c.loop-left-test.true (c.loop-left.invariant c.requires) in omega (arith, s.below, s.within, some_own (form (get_or c.args.p.now c.loop-left.at 0)))

pub parts-requires : goal.parts-requires
parts-requires c = (long c.requires.known, small (get_or c.args.p.now c.loop-left.at 0) _ c.classify-w.ensures)

pub overflow_add-left : goal.overflow_add-left
overflow_add-left c = let s = left_next c.requires.known _ c.classify-w.ensures c.loop-left-test.true (c.loop-left.invariant c.requires) in omega (arith, s.few, c.parts.ensures, c.well_formed)

pub overflow_add-at : goal.overflow_add-at
overflow_add-at c = let s = left_next c.requires.known _ c.classify-w.ensures c.loop-left-test.true (c.loop-left.invariant c.requires) in omega (arith, c.own_words-at.ensures, s.below, s.within, c.well_formed)

pub loop-left-smaller : goal.loop-left-smaller
loop-left-smaller c = let s = left_next c.requires.known _ c.classify-w.ensures c.loop-left-test.true (c.loop-left.invariant c.requires) in omega (arith, c.own_words-at.ensures, s.below, s.within, some_own (form_of c.classify-w.result))

pub loop-left-preserved : goal.loop-left-preserved
loop-left-preserved c = λ o. rw (c.parts.ensures, c.own_words-at.ensures) (left_next o.known _ c.classify-w.ensures c.loop-left-test.true (c.loop-left.invariant o)).next

pub returns : goal.returns
returns c = λ o. left_done c.loop-left-test.false (c.loop-left.invariant o)
