use native.Mathlib.Omega.{arith}
use Rattle.signature.proofs.KnownFacts.{long, few_constructors}
use Rattle.booking.proofs.SpanLaws.{left_start, left_done, left_next}
use Rattle.booking.proofs.walk.span.Goals as goal

pub loop-left-init : goal.loop-left-init
loop-left-init c = λ s. left_start s

pub offset_bounds-b-at : goal.offset_bounds-b-at
offset_bounds-b-at c = let s = left_next c.requires.known c.loop-left-test.true (c.loop-left.invariant c.requires) in omega (arith, s.below, s.within, c.well_formed)

pub bounds-b-at : goal.bounds-b-at
bounds-b-at c = let s = left_next c.requires.known c.loop-left-test.true (c.loop-left.invariant c.requires) in omega (arith, s.below, s.within)

pub head_arity-requires : goal.head_arity-requires
head_arity-requires c = let s = left_next c.requires.known c.loop-left-test.true (c.loop-left.invariant c.requires) in let g = c.requires.known in (long g, λ l. omega (arith, s.constructor l, few_constructors g))

pub overflow_add-left : goal.overflow_add-left
overflow_add-left c = let s = left_next c.requires.known c.loop-left-test.true (c.loop-left.invariant c.requires) in omega (arith, s.few, c.head_arity.ensures, c.well_formed)

pub overflow_add-at : goal.overflow_add-at
overflow_add-at c = let s = left_next c.requires.known c.loop-left-test.true (c.loop-left.invariant c.requires) in omega (arith, s.below, s.within, c.well_formed)

pub loop-left-smaller : goal.loop-left-smaller
loop-left-smaller c = let s = left_next c.requires.known c.loop-left-test.true (c.loop-left.invariant c.requires) in omega (arith, s.below, s.within)

pub loop-left-preserved : goal.loop-left-preserved
loop-left-preserved c = λ s. rw c.head_arity.ensures (left_next s.known c.loop-left-test.true (c.loop-left.invariant s)).next

pub returns : goal.returns
returns c = λ s. left_done c.loop-left-test.false (c.loop-left.invariant s)
