use native.Mathlib.Omega.{arith}
use Rattle.reporting.proofs.RuleLaws.{rule_none, rule_size, rule_put}
use Rattle.reporting.proofs.put_rule.Goals as goal

pub returns-then-count-eq0 : goal.returns-then-count-eq0
returns-then-count-eq0 c = rule_none c.args.rule c.args.count c.args.at c.args.out.now c.if-count-eq0.true

pub put-a-requires : goal.put-a-requires
put-a-requires c = omega (arith, c.requires, rule_size c.args.rule c.args.count c.args.at c.args.out.now c.requires c.if-count-eq0.false)

pub put_number-b-requires : goal.put_number-b-requires
put_number-b-requires c = omega (arith, c.requires, rule_size c.args.rule c.args.count c.args.at c.args.out.now c.requires c.if-count-eq0.false, c.put-a.ensures.behind, c.put-a.auto.out)

pub put_line-requires : goal.put_line-requires
put_line-requires c = omega (arith, c.requires, rule_size c.args.rule c.args.count c.args.at c.args.out.now c.requires c.if-count-eq0.false, c.put-a.ensures.behind, c.put-a.auto.out, c.put_number-b.ensures.behind, c.put_number-b.auto.out)

pub returns : goal.returns
returns c = rule_put c.args.rule c.args.count c.args.at c.args.out.now c.requires c.if-count-eq0.false c.put-a.ensures c.put_number-b.ensures c.put_line.ensures
