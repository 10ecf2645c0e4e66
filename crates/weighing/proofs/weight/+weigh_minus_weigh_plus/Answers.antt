use native.Mathlib.Omega.{arith}
use Rattle.pattern.specs.Side.{plus, minus}
use Rattle.pattern.specs.Word.{form_of}
use Rattle.pattern.proofs.Opened.{word_there, own_in, some_own}
use Rattle.weighing.proofs.WeightSteps.{start, start_low, behind_not, swap_is, swap_heavy, part_open, part_le, turn, turn_heavy, ends_heavy, ends_light}
use Rattle.weighing.proofs.weight.+weigh_minus_weigh_plus.Goals as goal

pub weigh_minus-weigh_plus-requires : goal.weigh_minus-weigh_plus-requires
weigh_minus-weigh_plus-requires t c = (omega (arith, c.own_words-own.ensures, some_own (form_of c.classify-w.result), word_there c.requires), rw c.own_words-own.ensures (behind_not minus c.requires (form_of c.classify-w.result) c.classify-w.ensures c.in_default.ensures))

pub weigh_minus-returns-in_err-a : goal.weigh_minus-returns-in_err-a
weigh_minus-returns-in_err-a t c = λ g. rw c.from_residual.ensures (swap_heavy minus g (form_of c.classify-w.result) c.classify-w.ensures c.in_default.ensures (rw c.own_words-own.ensures at c.in_err-a.ensures))

pub weigh_minus-overflow_add-result : goal.weigh_minus-overflow_add-result
weigh_minus-overflow_add-result t c = let h = (swap_is minus c.requires (form_of c.classify-w.result) c.classify-w.ensures c.in_default.ensures c.in_ok-a.a c.in_ok-a.used (rw c.own_words-own.ensures at c.in_ok-a.ensures)).1 in omega (arith, c.own_words-own.ensures)

pub weigh_minus-returns-in_default : goal.weigh_minus-returns-in_default
weigh_minus-returns-in_default t c = λ g. rw c.own_words-own.ensures (swap_is minus g (form_of c.classify-w.result) c.classify-w.ensures c.in_default.ensures c.in_ok-a.a c.in_ok-a.used (rw c.own_words-own.ensures at c.in_ok-a.ensures)).0

pub weigh_minus-loop-i-init : goal.weigh_minus-loop-i-init
weigh_minus-loop-i-init t c = (
  omega (arith, c.own_words-own.ensures, some_own (form_of c.classify-w.result)),
  rw c.own_words-own.ensures (own_in c.requires (form_of c.classify-w.result) c.classify-w.ensures),
  let h = start_low minus c.requires (form_of c.classify-w.result) c.classify-w.ensures c.in-Some.start c.in-Some.times c.in-Some.ensures in omega arith,
  λ g. rw c.own_words-own.ensures (start minus g (form_of c.classify-w.result) c.classify-w.ensures c.in-Some.start c.parts-count.result c.in-Some.times c.in-Some.ensures c.parts-count.ensures),
)

pub weigh_minus-weigh_minus-requires : goal.weigh_minus-weigh_minus-requires
weigh_minus-weigh_minus-requires t c = (omega arith, part_open minus c.parts-count.result c.loop-i._i (c.loop-i.invariant.3 c.requires) (omega arith))

pub weigh_minus-returns-in_err-m : goal.weigh_minus-returns-in_err-m
weigh_minus-returns-in_err-m t c = λ g. rw c.from_residual-in_err-m.ensures (turn_heavy minus c.parts-count.result c.loop-i._i (c.loop-i.invariant.3 g) (omega arith) c.in_err-m.ensures)

pub weigh_minus-join-n-requires : goal.weigh_minus-join-n-requires
weigh_minus-join-n-requires t c = (c.loop-i.invariant.2, (part_le minus c.parts-count.result c.loop-i._i (c.loop-i.invariant.3 c.requires) (omega arith) c.in_ok-m.m c.in_ok-m.used c.in_ok-m.ensures c.loop-i.invariant.1).0)

pub weigh_minus-overflow_add-at : goal.weigh_minus-overflow_add-at
weigh_minus-overflow_add-at t c = let h = (part_le minus c.parts-count.result c.loop-i._i (c.loop-i.invariant.3 c.requires) (omega arith) c.in_ok-m.m c.in_ok-m.used c.in_ok-m.ensures c.loop-i.invariant.1).1 in omega arith

pub weigh_minus-loop-i-preserved : goal.weigh_minus-loop-i-preserved
weigh_minus-loop-i-preserved t c = (
  omega arith,
  (part_le minus c.parts-count.result c.loop-i._i (c.loop-i.invariant.3 c.requires) (omega arith) c.in_ok-m.m c.in_ok-m.used c.in_ok-m.ensures c.loop-i.invariant.1).1,
  omega (arith, c.join-n.ensures),
  λ g. rw c.join-n.ensures (turn minus c.parts-count.result c.loop-i._i (c.loop-i.invariant.3 g) (omega arith) c.in_ok-m.m c.in_ok-m.used c.in_ok-m.ensures),
)

pub weigh_minus-returns-then-n-gt-PART_WEIGHT : goal.weigh_minus-returns-then-n-gt-PART_WEIGHT
weigh_minus-returns-then-n-gt-PART_WEIGHT t c = λ g. ends_heavy minus c.parts-count.result c.loop-i._i (c.loop-i.invariant.3 g) (omega arith) c.loop-i.invariant.2 c.if-n-gt-PART_WEIGHT.true

pub weigh_minus-returns : goal.weigh_minus-returns
weigh_minus-returns t c = λ g. ends_light minus c.parts-count.result c.loop-i._i (c.loop-i.invariant.3 g) (omega arith) c.loop-i.invariant.2 c.if-n-gt-PART_WEIGHT.false

pub weigh_plus-weigh_minus-requires : goal.weigh_plus-weigh_minus-requires
weigh_plus-weigh_minus-requires t c = (omega (arith, c.own_words-own.ensures, some_own (form_of c.classify-w.result), word_there c.requires), rw c.own_words-own.ensures (behind_not plus c.requires (form_of c.classify-w.result) c.classify-w.ensures c.in_default.ensures))

pub weigh_plus-returns-in_err-a : goal.weigh_plus-returns-in_err-a
weigh_plus-returns-in_err-a t c = λ g. rw c.from_residual.ensures (swap_heavy plus g (form_of c.classify-w.result) c.classify-w.ensures c.in_default.ensures (rw c.own_words-own.ensures at c.in_err-a.ensures))

pub weigh_plus-overflow_add-result : goal.weigh_plus-overflow_add-result
weigh_plus-overflow_add-result t c = let h = (swap_is plus c.requires (form_of c.classify-w.result) c.classify-w.ensures c.in_default.ensures c.in_ok-a.a c.in_ok-a.used (rw c.own_words-own.ensures at c.in_ok-a.ensures)).1 in omega (arith, c.own_words-own.ensures)

pub weigh_plus-returns-in_default : goal.weigh_plus-returns-in_default
weigh_plus-returns-in_default t c = λ g. rw c.own_words-own.ensures (swap_is plus g (form_of c.classify-w.result) c.classify-w.ensures c.in_default.ensures c.in_ok-a.a c.in_ok-a.used (rw c.own_words-own.ensures at c.in_ok-a.ensures)).0

pub weigh_plus-loop-i-init : goal.weigh_plus-loop-i-init
weigh_plus-loop-i-init t c = (
  omega (arith, c.own_words-own.ensures, some_own (form_of c.classify-w.result)),
  rw c.own_words-own.ensures (own_in c.requires (form_of c.classify-w.result) c.classify-w.ensures),
  let h = start_low plus c.requires (form_of c.classify-w.result) c.classify-w.ensures c.in-Some.start c.in-Some.times c.in-Some.ensures in omega arith,
  λ g. rw c.own_words-own.ensures (start plus g (form_of c.classify-w.result) c.classify-w.ensures c.in-Some.start c.parts-count.result c.in-Some.times c.in-Some.ensures c.parts-count.ensures),
)

pub weigh_plus-weigh_plus-requires : goal.weigh_plus-weigh_plus-requires
weigh_plus-weigh_plus-requires t c = (omega arith, part_open plus c.parts-count.result c.loop-i._i (c.loop-i.invariant.3 c.requires) (omega arith))

pub weigh_plus-returns-in_default-weigh_plus : goal.weigh_plus-returns-in_default-weigh_plus
weigh_plus-returns-in_default-weigh_plus t c = λ g. turn_heavy plus c.parts-count.result c.loop-i._i (c.loop-i.invariant.3 g) (omega arith) c.in_default-weigh_plus.ensures

pub weigh_plus-join-n-requires : goal.weigh_plus-join-n-requires
weigh_plus-join-n-requires t c = (c.loop-i.invariant.2, (part_le plus c.parts-count.result c.loop-i._i (c.loop-i.invariant.3 c.requires) (omega arith) c.in-Some-weigh_plus.m c.in-Some-weigh_plus.used c.in-Some-weigh_plus.ensures c.loop-i.invariant.1).0)

pub weigh_plus-overflow_add-at : goal.weigh_plus-overflow_add-at
weigh_plus-overflow_add-at t c = let h = (part_le plus c.parts-count.result c.loop-i._i (c.loop-i.invariant.3 c.requires) (omega arith) c.in-Some-weigh_plus.m c.in-Some-weigh_plus.used c.in-Some-weigh_plus.ensures c.loop-i.invariant.1).1 in omega arith

pub weigh_plus-loop-i-preserved : goal.weigh_plus-loop-i-preserved
weigh_plus-loop-i-preserved t c = (
  omega arith,
  (part_le plus c.parts-count.result c.loop-i._i (c.loop-i.invariant.3 c.requires) (omega arith) c.in-Some-weigh_plus.m c.in-Some-weigh_plus.used c.in-Some-weigh_plus.ensures c.loop-i.invariant.1).1,
  omega (arith, c.join-n.ensures),
  λ g. rw c.join-n.ensures (turn plus c.parts-count.result c.loop-i._i (c.loop-i.invariant.3 g) (omega arith) c.in-Some-weigh_plus.m c.in-Some-weigh_plus.used c.in-Some-weigh_plus.ensures),
)

pub weigh_plus-returns-then-n-gt-PART_WEIGHT : goal.weigh_plus-returns-then-n-gt-PART_WEIGHT
weigh_plus-returns-then-n-gt-PART_WEIGHT t c = λ g. ends_heavy plus c.parts-count.result c.loop-i._i (c.loop-i.invariant.3 g) (omega arith) c.loop-i.invariant.2 c.if-n-gt-PART_WEIGHT.true

pub weigh_plus-returns : goal.weigh_plus-returns
weigh_plus-returns t c = λ g. ends_light plus c.parts-count.result c.loop-i._i (c.loop-i.invariant.3 g) (omega arith) c.loop-i.invariant.2 c.if-n-gt-PART_WEIGHT.false
