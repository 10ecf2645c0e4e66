use mathlib.Core.Path.{subst, sym, ap, ◌∙◌}
use native.Mathlib.Omega.{arith}
use lib.Dec.{eqb}
use Rattle.signature.specs.Lists.{all}
use Rattle.store.specs.Head.{HeadAt}
use Rattle.store.proofs.Reading.{laid_over, laid_start, laid_on, laid_broken, laid_end, part_from}
use Rattle.store.proofs.layout.layout.Goals as goal

pub returns-then-n-gt-RULES : goal.returns-then-n-gt-RULES
returns-then-n-gt-RULES c = sym (laid_over c.args.table.now c.if-n-gt-RULES.true)

pub loop-i-init : goal.loop-i-init
loop-i-init c = (omega arith, laid_start c.args.table.now c.requires c.if-n-gt-RULES.false)

pub rule_from-requires : goal.rule_from-requires
rule_from-requires c = (c.requires, c.loop-i.invariant.0)

pub returns-in_default : goal.returns-in_default
returns-in_default c = let t = c.args.table.now in sym (laid_broken t _ c.loop-i.i c.loop-i.last c.loop-i.at c.loop-i-test.true c.loop-i.invariant.1 (subst (HeadAt t c.loop-i.at c.loop-i.last) c.in_default.is c.rule_from.ensures))

pub loop-i-preserved : goal.loop-i-preserved
loop-i-preserved c = let t = c.args.table.now in
    let q = subst (HeadAt t c.loop-i.at c.loop-i.last) c.in-Some.is c.rule_from.ensures in
    (q.1, laid_on t _ c.loop-i.i c.loop-i.last c.in-Some.number c.loop-i.at c.in-Some.end c.loop-i-test.true c.loop-i.invariant.1 q.2)

pub slice_bounds-zeros-count : goal.slice_bounds-zeros-count
slice_bounds-zeros-count c = c.loop-i.invariant.0

pub returns : goal.returns
returns c = let t = c.args.table.now in c.zeros.ensures ∙ ap (all (λ w. eqb w 0)) (part_from t c.loop-i.at) ∙ sym (laid_end t _ c.loop-i.i c.loop-i.last c.loop-i.at c.loop-i-test.false c.loop-i.invariant.1)
