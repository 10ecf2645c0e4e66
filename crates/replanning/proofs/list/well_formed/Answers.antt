use mathlib.Core.Path.{◌∙◌}
use Rattle.replanning.proofs.Lists.{too_long_list, reading_start, cut_short, bad_record, next_record}
use Rattle.replanning.proofs.list.well_formed.Goals as goal

pub returns-then-charges : goal.returns-then-charges
returns-then-charges c = too_long_list c.args.charges.now c.if-charges.true

pub loop-record-init : goal.loop-record-init
loop-record-init c = rw (c.into_iter-record-iterator.ensures.into_iter_gives) (c.chunks-record-items.ensures.size, rw (c.chunks-record-items.ensures.rest) (reading_start c.args.charges.now c.if-charges.false))

pub returns-then-record-lt-RECORD : goal.returns-then-record-lt-RECORD
returns-then-record-lt-RECORD c = cut_short c.loop-record.invariant.1 c.in-Some.ensures.steps.1.2 c.in-Some.record.now c.next.new.self.rest.now c.in-Some.ensures.steps.1.0 (rw (← c.loop-record.invariant.0) c.in-Some.ensures.steps.1.1) c.if-record-lt-RECORD.true

pub returns-then-not-is_record : goal.returns-then-not-is_record
returns-then-not-is_record c = bad_record c.loop-record.invariant.1 c.in-Some.ensures.steps.1.2 c.in-Some.record.now c.next.new.self.rest.now c.in-Some.ensures.steps.1.0 (rw (← c.loop-record.invariant.0) c.in-Some.ensures.steps.1.1) c.if-record-lt-RECORD.false c.if-not-is_record.ensures

pub loop-record-preserved : goal.loop-record-preserved
loop-record-preserved c = (c.in-Some.ensures.steps.0 ∙ c.loop-record.invariant.0, next_record c.loop-record.invariant.1 c.in-Some.ensures.steps.1.2 c.in-Some.record.now c.next.new.self.rest.now c.in-Some.ensures.steps.1.0 (rw (← c.loop-record.invariant.0) c.in-Some.ensures.steps.1.1) c.if-record-lt-RECORD.false c.if-not-is_record.ensures)
