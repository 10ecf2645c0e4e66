use mathlib.Core.Path.{◌∙◌}
use native.Mathlib.Omega.{arith}
use Rattle.run.proofs.BindLaws.{hit_short, rule_0, rule_over, rule_in}
use Rattle.run.proofs.leaf.hit.Goals as goal

pub returns-then-t-lt-HIT_WORDS : goal.returns-then-t-lt-HIT_WORDS
returns-then-t-lt-HIT_WORDS c = hit_short c.args.t.now c.args.visits.now c.if-t-lt-HIT_WORDS.true

pub returns-then-rule-eq0 : goal.returns-then-rule-eq0
returns-then-rule-eq0 c = rule_0 c.args.t.now c.args.visits.now c.if-t-lt-HIT_WORDS.false c.if-rule-eq0.true

pub returns-then-rule-gt-LAST_NUMBER : goal.returns-then-rule-gt-LAST_NUMBER
returns-then-rule-gt-LAST_NUMBER c = rule_over c.args.t.now c.args.visits.now c.if-t-lt-HIT_WORDS.false c.if-rule-eq0.false c.if-rule-gt-LAST_NUMBER.true

pub overflow_cast-count : goal.overflow_cast-count
overflow_cast-count c = omega (arith, c.shared_slice_known-4-1.given 3)

pub returns : goal.returns
returns c = c.bind.ensures ∙ rule_in c.args.t.now c.args.visits.now c.if-t-lt-HIT_WORDS.false c.if-rule-eq0.false c.if-rule-gt-LAST_NUMBER.false
