use mathlib.Core.Path.{sym, ap, ◌∙◌}
use native.Mathlib.Omega.{arith}
use borrow.Author.Tests.{not-false}
use lib.ListN.{length-drop, drop}
use Rattle.signature.proofs.KnownFacts.{long}
use Rattle.booking.specs.Walk.{decoded_view}
use Rattle.booking.proofs.Laid.{drop_laid}
use Rattle.booking.proofs.StepLaws.{told_value, goes_on, deep_fits, due_kind, has_room, waits}
use Rattle.booking.proofs.Views.{seen, head_small, constructor_below, head_few}
use Rattle.booking.proofs.walk.step.Goals as goal

pub may_stand-requires : goal.may_stand-requires
may_stand-requires c = (c.requires.known, due_kind _ _ _ c.args.read _ _ (seen c.requires.known).some_kind c.requires.words_len.2 (told_value _ _ c.in_ok-k.ensures))

pub overflow_mul-w : goal.overflow_mul-w
overflow_mul-w c = let g = c.requires.known in omega (arith, head_small g _ c.args.w (sym (c.may_stand.ensures g) ∙ not-false _ c.if-not-may_stand.false-raw))

pub overflow_add-w : goal.overflow_add-w
overflow_add-w c = let g = c.requires.known in omega (arith, head_small g _ c.args.w (sym (c.may_stand.ensures g) ∙ not-false _ c.if-not-may_stand.false-raw))

pub head_arity-requires : goal.head_arity-requires
head_arity-requires c = let g = c.requires.known in (long g, constructor_below g _ c.args.w (sym (c.may_stand.ensures g) ∙ not-false _ c.if-not-may_stand.false-raw))

pub advance-requires : goal.advance-requires
advance-requires c = let g = c.requires.known in let w = c.requires.words_len in let due = told_value _ _ c.in_ok-k.ensures in record {
  in_bounds = (
    omega (arith, w.0),
    omega (arith, w.0, w.1),
    (λ h. omega (arith, has_room _ _ _ c.args.read _ _ h c.if-deep-eq0.false w.2 due, length-drop c.args.at c.args.words.now, w.0)),
    waits c.args.t.now c.args.words.now c.args.at c.args.read _ _ due (omega (arith, long g)),
  );
  m_lt_depth_limit = (
    omega (arith, c.head_arity.ensures, head_few g _ c.args.w (sym (c.may_stand.ensures g) ∙ not-false _ c.if-not-may_stand.false-raw)),
    omega (arith, deep_fits _ _ c.args.read _ _ due),
  );
}

pub returns : goal.returns
returns c = let a = c.advance in record {
  within = omega (arith, a.ensures.place, c.requires.words_len.0);
  walked = λ g. goes_on (decoded_view g.sig c.args.t.now) c.args.read (drop c.args.at c.args.words.now) c.args.w _ _ (told_value _ _ c.in_ok-k.ensures) _ _ c.if-deep-eq0.false
      (sym (c.may_stand.ensures g) ∙ not-false _ c.if-not-may_stand.false-raw) c.head_arity.ensures (ap (drop a.result) a.ensures.left ∙ drop_laid c.args.words.now _ a.result a.ensures.place);
}
