use mathlib.Core.Path.{sym, ◌∙◌}
use native.Mathlib.Omega.{arith}
use Rattle.format.proofs.FormatSteps.{rule_broken, rule_fits, rule_over, book_broken, book_there}
use Rattle.format.proofs.whole.rest_keeps.Goals as goal

pub slice_bounds-t-count : goal.slice_bounds-t-count
slice_bounds-t-count c = omega (arith, rule_fits c.loop-w.t.now (sym c.loop-w-test.true ∙ c.starts.ensures) c.rule_lines.result c.rule_lines.ensures.0 c.in-Some.rule c.in-Some.is)

pub returns-in_default-list_line : goal.returns-in_default-list_line
returns-in_default-list_line c = sym (c.loop-w.invariant.2 ∙ book_broken c.loop-w.t.now (sym c.loop-w-test.false ∙ c.starts.ensures) c.list_line.result c.list_line.ensures.0 c.in_default-list_line.is)

pub returns : goal.returns
returns c = book_there c.loop-w.t.now (sym c.loop-w-test.false ∙ c.starts.ensures) c.list_line.result c.list_line.ensures.0 c.in-Some-list_line.book c.in-Some-list_line.is ∙ sym c.loop-w.invariant.2

pub returns-in_default : goal.returns-in_default
returns-in_default c = sym (c.loop-w.invariant.2 ∙ rule_broken c.loop-w.t.now (sym c.loop-w-test.true ∙ c.starts.ensures) c.rule_lines.result c.rule_lines.ensures.0 c.in_default.is)

pub slice_bounds-t-start : goal.slice_bounds-t-start
slice_bounds-t-start c = (rule_fits c.loop-w.t.now (sym c.loop-w-test.true ∙ c.starts.ensures) c.rule_lines.result c.rule_lines.ensures.0 c.in-Some.rule c.in-Some.is).1

pub loop-w-smaller : goal.loop-w-smaller
loop-w-smaller c = omega (arith, rule_fits c.loop-w.t.now (sym c.loop-w-test.true ∙ c.starts.ensures) c.rule_lines.result c.rule_lines.ensures.0 c.in-Some.rule c.in-Some.is)

pub loop-w-preserved : goal.loop-w-preserved
loop-w-preserved c = let l = c.loop-w in (
  omega (arith, c.rule_lines.auto.out, l.invariant.0),
  c.rule_lines.auto.out ∙ l.invariant.1,
  l.invariant.2 ∙ rule_over c.loop-w.t.now (sym c.loop-w-test.true ∙ c.starts.ensures) c.rule_lines.result c.rule_lines.ensures.0 c.in-Some.rule c.in-Some.is,
)
