use mathlib.Core.Path.{refl, sym, ap, ◌∙◌}
use mathlib.Core.Bool.{◌&&◌}
use native.Mathlib.Omega.{arith}
use lib.ListN.{drop}
use borrow.Author.Tests.{not-false}
use Rattle.booking.proofs.StepLaws.{told_value, goes_on, deep_fits, waits}
use Rattle.stepping.specs.State.{state_view, has_row}
use Rattle.stepping.proofs.CaseLaws.{found_row}
use Rattle.stepping.proofs.step.head_at.Goals as goal

pub returns : goal.returns
returns c = let due = (told_value _ _ c.in_ok-k.ensures) in let (h, f, o) = found_row c.args.ss.now c.args.st.now c.args.w _ _ c.in_ok-place.ensures in (
  sym (goes_on (state_view c.args.ss.now c.args.st.now) c.args.read (drop c.args.at c.args.st.now) c.args.w _ _ due _ _ c.if-deep-eq0.false
      (ap (λ b. b && has_row c.args.ss.now c.args.st.now c.args.w) (sym c.is_head_of.ensures ∙ not-false _ c.if-not-is_head_of.false-raw) ∙ h) refl (sym (o _ _))),
  omega (arith, f),
  omega (arith, deep_fits _ _ c.args.read _ _ due),
  waits c.args.ss.now c.args.st.now c.args.at c.args.read _ _ due (omega (arith, c.requires.1)),
)
