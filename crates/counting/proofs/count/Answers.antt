use mathlib.Core.Path.{refl, sym}
use native.Mathlib.Omega.{arith}
use lib.ListN.{length-set}
use Rattle.signature.proofs.Tests.{true≢false}
use Rattle.counting.proofs.Counting.{going_start, all_rules, all_counted, not_a_rule, within, small, going_next}
use Rattle.counting.proofs.count.Goals as goal

pub loop-entry-init : goal.loop-entry-init
loop-entry-init c = (omega arith, c.requires.0, refl, going_start c.args.log.now c.args.counts.now c.requires.1)

pub returns-then-n-gt-LAST_NUMBER : goal.returns-then-n-gt-LAST_NUMBER
returns-then-n-gt-LAST_NUMBER c = (not_a_rule c.loop-entry.invariant.3 c.loop-entry-test.true c.if-n-gt-LAST_NUMBER.true, λ e. true≢false (sym e))

pub bounds-counts-at : goal.bounds-counts-at
bounds-counts-at c = within c.loop-entry.invariant.3 c.loop-entry-test.true c.if-n-gt-LAST_NUMBER.false

pub overflow_add-counts : goal.overflow_add-counts
overflow_add-counts c = omega (arith, small c.loop-entry.invariant.3 c.loop-entry-test.true c.if-n-gt-LAST_NUMBER.false c.loop-entry.invariant.1)

pub bounds-counts-at-in-loop-entry : goal.bounds-counts-at-in-loop-entry
bounds-counts-at-in-loop-entry c = within c.loop-entry.invariant.3 c.loop-entry-test.true c.if-n-gt-LAST_NUMBER.false

pub loop-entry-preserved : goal.loop-entry-preserved
loop-entry-preserved c = let l = c.loop-entry in (omega arith, l.invariant.1, simp length-set l.invariant.2, going_next l.invariant.3 c.loop-entry-test.true c.if-n-gt-LAST_NUMBER.false)

pub returns : goal.returns
returns c = (all_rules c.loop-entry.invariant.3 c.loop-entry-test.false, λ e. all_counted c.loop-entry.invariant.3 c.loop-entry-test.false)
