use native.Mathlib.Omega.{arith}
use Rattle.reporting.proofs.ReportLaws.{report_length, report_put}
use Rattle.reporting.proofs.report.Goals as goal

pub put_rules-at-requires : goal.put_rules-at-requires
put_rules-at-requires c = (c.requires.0, omega (arith, c.requires.1, report_length c.args.counts.now c.args.total))

pub put_line-requires : goal.put_line-requires
put_line-requires c = omega (arith, c.requires.1, report_length c.args.counts.now c.args.total, c.put_rules-at.ensures.behind, c.put_rules-at.auto.out)

pub returns : goal.returns
returns c = report_put c.args.counts.now c.args.total c.args.out.now c.requires.1 c.put_rules-at.ensures c.put_line.ensures
