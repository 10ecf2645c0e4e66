use mathlib.Core.Path.{refl, sym, ap, ◌∙◌}
use native.Mathlib.Omega.{arith}
use lib.ListN.{length}
use lib.Seq.{length-take-le}
use Rattle.signature.specs.Lists.{is_some}
use Rattle.text.specs.Format.{after_key, key_rule}
use Rattle.text.specs.Print.{print_refused}
use Rattle.numbers.proofs.Spans.{to_end}
use Rattle.answering.proofs.Steps.{as_printed, rule_not_broken, pattern_fits, lines_fit, rule_refused, rule_entered}
use Rattle.answering.proofs.rules.enter_rules.Goals as goal

pub refused-requires : goal.refused-requires
refused-requires c = omega (arith, c.requires.3, ap length c.loop-space.invariant.6)

pub shape_of-out-in_default : goal.shape_of-out-in_default
shape_of-out-in_default c = c.refused.auto.out ∙ ap length c.loop-space.invariant.6

pub returns-in_default : goal.returns-in_default
returns-in_default c = as_printed c.args.text.now (absurd (rule_not_broken c.loop-space.invariant.0 (sym c.loop-space-test.true ∙ c.starts.ensures) c.rule_lines.result c.rule_lines.ensures.0 c.in_default.is)) c.loop-space.invariant.6 c.refused.ensures

pub slice_bounds-pattern-end : goal.slice_bounds-pattern-end
slice_bounds-pattern-end c = omega (arith, pattern_fits c.loop-space.invariant.0 (sym c.loop-space-test.true ∙ c.starts.ensures) c.rule_lines.result c.rule_lines.ensures.0 c.in-Some.rule c.in-Some.is, c.rule_lines.auto.out, c.loop-space.invariant.1)

pub slice_bounds-pattern-end-in-loop-space : goal.slice_bounds-pattern-end-in-loop-space
slice_bounds-pattern-end-in-loop-space c = sym (length-take-le _ _ (omega (arith, pattern_fits c.loop-space.invariant.0 (sym c.loop-space-test.true ∙ c.starts.ensures) c.rule_lines.result c.rule_lines.ensures.0 c.in-Some.rule c.in-Some.is, c.rule_lines.auto.out, c.loop-space.invariant.1)))

pub refused-requires-in_default-e : goal.refused-requires-in_default-e
refused-requires-in_default-e c = omega (arith, c.requires.3, ap length c.loop-space.invariant.6)

pub shape_of-out-in_default-e : goal.shape_of-out-in_default-e
shape_of-out-in_default-e c = c.refused-in_default-e.auto.out ∙ ap length c.loop-space.invariant.6

pub returns-in_default-e : goal.returns-in_default-e
returns-in_default-e c = as_printed c.args.text.now (rule_refused c.loop-space.invariant.0 (sym c.loop-space-test.true ∙ c.starts.ensures) c.rule_lines.result c.rule_lines.ensures.0 c.in-Some.rule c.in-Some.is c.loop-space.space c.rule_lines.new.out c.rule_lines.ensures.1 c.loop-space.witness c.loop-space.invariant.2 c.enter-e.result c.enter-e.new.table c.enter-e.new.witness c.enter-e.ensures.enter c.enter-e.ensures.numbered c.in_default-e.not-Entered ∙ ap print_refused (sym c.entry_number.ensures)) c.loop-space.invariant.6 c.refused-in_default-e.ensures

pub overflow_add-at : goal.overflow_add-at
overflow_add-at c = omega (arith, lines_fit c.loop-space.invariant.0 (sym c.loop-space-test.true ∙ c.starts.ensures) c.rule_lines.result c.rule_lines.ensures.0 c.in-Some.rule c.in-Some.is)

pub loop-space-smaller : goal.loop-space-smaller
loop-space-smaller c = omega (arith, lines_fit c.loop-space.invariant.0 (sym c.loop-space-test.true ∙ c.starts.ensures) c.rule_lines.result c.rule_lines.ensures.0 c.in-Some.rule c.in-Some.is)

pub loop-space-preserved : goal.loop-space-preserved
loop-space-preserved c = (rule_entered c.loop-space.invariant.0 (sym c.loop-space-test.true ∙ c.starts.ensures) c.rule_lines.result c.rule_lines.ensures.0 c.in-Some.rule c.in-Some.is c.loop-space.space c.rule_lines.new.out c.rule_lines.ensures.1 c.loop-space.witness c.loop-space.invariant.2 c.enter-e.result c.enter-e.new.table c.enter-e.new.witness c.enter-e.ensures.enter c.enter-e.ensures.numbered c.in-Entered.is, omega (arith, c.rule_lines.auto.out, c.loop-space.invariant.1), omega (arith, c.enter-e.auto.witness, c.loop-space.invariant.2), c.enter-e.auto.table ∙ c.loop-space.invariant.3, c.rule_lines.auto.out ∙ c.loop-space.invariant.4, c.enter-e.auto.witness ∙ c.loop-space.invariant.5, c.loop-space.invariant.6)

pub decide_booking-requires : goal.decide_booking-requires
decide_booking-requires c = (c.loop-space.invariant.0, sym c.loop-space-test.false ∙ c.starts.ensures ∙ ap (λ z. is_some (after_key key_rule z)) (to_end c.args.text.now c.loop-space.at), c.loop-space.invariant.1, omega (arith, c.requires.3, ap length c.loop-space.invariant.6))

pub shape_of-out : goal.shape_of-out
shape_of-out c = c.decide_booking.auto.out ∙ ap length c.loop-space.invariant.6

pub returns : goal.returns
returns c = as_printed c.args.text.now refl c.loop-space.invariant.6 c.decide_booking.ensures
