use native.Mathlib.Omega.{arith}
use Rattle.signature.proofs.Booleans.{not_true, not_false}
use Rattle.pattern.specs.Linearity.{side_of}
use Rattle.pattern.specs.Word.{form_of}
use Rattle.linearity.proofs.LinearSteps.{start, part_open, part_le, turn, turn_not, turn_joint, ends_linear}
use Rattle.pattern.proofs.Opened.{own_in, some_own}
use Rattle.linearity.proofs.linear.+linear_at.Goals as goal

pub loop-i-init : goal.loop-i-init
loop-i-init t c = (omega arith, omega (arith, c.own_words-at.ensures, some_own (form_of c.classify-w.result)), rw c.own_words-at.ensures (own_in c.requires (form_of c.classify-w.result) c.classify-w.ensures), λ g. rw c.own_words-at.ensures (start (side_of c.args.plus) g (form_of c.classify-w.result) c.classify-w.ensures (side_of c.side_behind-side.result) c.joint_of-joint.result c.own_set-set.result c.parts-count.result c.side_behind-side.ensures c.joint_of-joint.ensures c.own_set-set.ensures c.parts-count.ensures))

pub linear_at-requires : goal.linear_at-requires
linear_at-requires t c = (omega arith, part_open (side_of c.args.plus) c.parts-count.result c.loop-i.i (c.loop-i.invariant.3 c.requires) (omega arith))

pub returns-in_err-m : goal.returns-in_err-m
returns-in_err-m t c = λ g. rw c.from_residual.ensures (turn_not (side_of c.args.plus) c.parts-count.result c.loop-i.i (c.loop-i.invariant.3 g) (omega arith) c.in_err-m.ensures)

pub returns-then-not-goes_with : goal.returns-then-not-goes_with
returns-then-not-goes_with t c = λ g. turn_joint (side_of c.args.plus) c.parts-count.result c.loop-i.i (c.loop-i.invariant.3 g) (omega arith) c.in_ok-m.m c.in_ok-m.used c.in_ok-m.ensures _ c.goes_with.ensures (not_true _ c.if-not-goes_with.true-raw)

pub overflow_add-at : goal.overflow_add-at
overflow_add-at t c = let h = part_le (side_of c.args.plus) c.parts-count.result c.loop-i.i (c.loop-i.invariant.3 c.requires) (omega arith) c.in_ok-m.m c.in_ok-m.used c.in_ok-m.ensures c.loop-i.invariant.2 in omega arith

pub loop-i-preserved : goal.loop-i-preserved
loop-i-preserved t c = (
  omega arith,
  omega arith,
  part_le (side_of c.args.plus) c.parts-count.result c.loop-i.i (c.loop-i.invariant.3 c.requires) (omega arith) c.in_ok-m.m c.in_ok-m.used c.in_ok-m.ensures c.loop-i.invariant.2,
  λ g. turn (side_of c.args.plus) c.parts-count.result c.loop-i.i (c.loop-i.invariant.3 g) (omega arith) c.in_ok-m.m c.in_ok-m.used c.in_ok-m.ensures _ c.goes_with.ensures _ (not_false _ c.if-not-goes_with.false-raw) c.join-set.ensures,
)

pub returns : goal.returns
returns t c = λ g. ends_linear (side_of c.args.plus) c.parts-count.result c.loop-i.i (c.loop-i.invariant.3 g) (omega arith)
