use mathlib.Core.Path.{◌∙◌}
use Rattle.reporting.proofs.ReportLaws.{lines_next}
use Rattle.reporting.proofs.put_rules.Goals as goal

pub loop-n-preserved : goal.loop-n-preserved
loop-n-preserved c = let l = c.loop-n in (l.invariant.0, l.invariant.1, c.put_rule-at.auto.out ∙ l.invariant.2, lines_next l.invariant.3 l.invariant.1 c.loop-n-test.true c.put_rule-at.result c.put_rule-at.new.out c.put_rule-at.ensures)
