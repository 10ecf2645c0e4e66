use native.Mathlib.Omega.{arith}
use Rattle.lines.proofs.RuleSteps.{rule_bad, rule_fits, plan_bad, plan_fits, pat_bad, all_fit, rule_there}
use Rattle.lines.proofs.line.rule_lines.Goals as goal

pub slice_bounds-second-count : goal.slice_bounds-second-count
slice_bounds-second-count c = omega (arith, rule_fits c.args.t.now c.number_line.result c.number_line.ensures c.in_ok-rule.rule c.in_ok-rule.was)

pub slice_bounds-third-count : goal.slice_bounds-third-count
slice_bounds-third-count c = omega (arith, plan_fits c.args.t.now c.number_line.result c.number_line.ensures c.in_ok-rule.rule c.in_ok-rule.was c.number_line-2.result c.number_line-2.ensures c.in_ok-plan.plan c.in_ok-plan.was)

pub returns-in_err-pattern : goal.returns-in_err-pattern
returns-in_err-pattern c = rw c.from_residual-in_err-pattern.ensures (pat_bad c.args.t.now c.number_line.result c.number_line.ensures c.in_ok-rule.rule c.in_ok-rule.was c.number_line-2.result c.number_line-2.ensures c.in_ok-plan.plan c.in_ok-plan.was c.args.out.now c.list_line.new.out c.list_line.result c.list_line.ensures.0 c.list_line.ensures.1 c.in_err-pattern.was)

pub overflow_add-result : goal.overflow_add-result
overflow_add-result c = omega (arith, all_fit c.args.t.now c.number_line.result c.number_line.ensures c.in_ok-rule.rule c.in_ok-rule.was c.number_line-2.result c.number_line-2.ensures c.in_ok-plan.plan c.in_ok-plan.was c.args.out.now c.list_line.new.out c.list_line.result c.list_line.ensures.0 c.list_line.ensures.1 c.in_ok-pattern.pattern c.in_ok-pattern.was, c.well_formed)

pub overflow_add-result-2 : goal.overflow_add-result-2
overflow_add-result-2 c = omega (arith, all_fit c.args.t.now c.number_line.result c.number_line.ensures c.in_ok-rule.rule c.in_ok-rule.was c.number_line-2.result c.number_line-2.ensures c.in_ok-plan.plan c.in_ok-plan.was c.args.out.now c.list_line.new.out c.list_line.result c.list_line.ensures.0 c.list_line.ensures.1 c.in_ok-pattern.pattern c.in_ok-pattern.was, c.well_formed)

pub returns : goal.returns
returns c = rule_there c.args.t.now c.number_line.result c.number_line.ensures c.in_ok-rule.rule c.in_ok-rule.was c.number_line-2.result c.number_line-2.ensures c.in_ok-plan.plan c.in_ok-plan.was c.args.out.now c.list_line.new.out c.list_line.result c.list_line.ensures.0 c.list_line.ensures.1 c.in_ok-pattern.pattern c.in_ok-pattern.was

pub returns-in_err-rule : goal.returns-in_err-rule
returns-in_err-rule c = rw c.from_residual.ensures (rule_bad c.args.t.now c.number_line.result c.number_line.ensures _ _ c.in_err-rule.was)

pub slice_bounds-second-start : goal.slice_bounds-second-start
slice_bounds-second-start c = (rule_fits c.args.t.now c.number_line.result c.number_line.ensures c.in_ok-rule.rule c.in_ok-rule.was).1

pub returns-in_err-plan : goal.returns-in_err-plan
returns-in_err-plan c = rw c.from_residual-in_err-plan.ensures (plan_bad c.args.t.now c.number_line.result c.number_line.ensures c.in_ok-rule.rule c.in_ok-rule.was c.number_line-2.result c.number_line-2.ensures _ _ c.in_err-plan.was)

pub slice_bounds-third-start : goal.slice_bounds-third-start
slice_bounds-third-start c = (plan_fits c.args.t.now c.number_line.result c.number_line.ensures c.in_ok-rule.rule c.in_ok-rule.was c.number_line-2.result c.number_line-2.ensures c.in_ok-plan.plan c.in_ok-plan.was).1
