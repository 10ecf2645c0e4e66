use mathlib.Core.Path.{refl, sym}
use Rattle.counting.proofs.Counting.{too_long, no_rules, tallied}
use Rattle.counting.proofs.tally.Goals as goal

pub returns-then-log-gt-LOG_LIMIT : goal.returns-then-log-gt-LOG_LIMIT
returns-then-log-gt-LOG_LIMIT c = too_long c.args.log.now c.if-log-gt-LOG_LIMIT.true

pub returns-then-not-count : goal.returns-then-not-count
returns-then-not-count c = no_rules c.args.log.now c.if-log-gt-LOG_LIMIT.false (sym c.if-not-count.ensures.0)

pub returns : goal.returns
returns c = tallied c.args.log.now c.if-log-gt-LOG_LIMIT.false (sym c.if-not-count.ensures.0) (c.if-not-count.ensures.1 refl)
