use mathlib.Core.Path.{ap, sym, ◌∙◌}
use Prim.Native.Nat.{◌-◌}
use native.Mathlib.Omega.{arith}
use Rattle.deciding.proofs.Judged.{long, start, end_le, asked, by_rule, hit, again, finished}
use Rattle.deciding.proofs.rules.by_rules.Goals as goal

pub bounds-table-0 : goal.bounds-table-0
bounds-table-0 c = omega (arith, long c.requires)

pub loop-i-init : goal.loop-i-init
loop-i-init c = λ g. start g

pub overflow_add-from : goal.overflow_add-from
overflow_add-from c = omega (arith, end_le c.requires (c.loop-i.invariant c.requires) c.loop-i-test.true)

pub overflow_add-end : goal.overflow_add-end
overflow_add-end c = omega (arith, end_le c.requires (c.loop-i.invariant c.requires) c.loop-i-test.true)

pub offset_bounds-table-at : goal.offset_bounds-table-at
offset_bounds-table-at c = omega (arith, end_le c.requires (c.loop-i.invariant c.requires) c.loop-i-test.true)

pub bounds-table-at : goal.bounds-table-at
bounds-table-at c = omega (arith, end_le c.requires (c.loop-i.invariant c.requires) c.loop-i-test.true, long c.requires)

pub overflow_cast-end : goal.overflow_cast-end
overflow_cast-end c = omega (arith, end_le c.requires (c.loop-i.invariant c.requires) c.loop-i-test.true)

pub overflow_add-end-in-loop-i : goal.overflow_add-end-in-loop-i
overflow_add-end-in-loop-i c = omega (arith, end_le c.requires (c.loop-i.invariant c.requires) c.loop-i-test.true)

pub offset_bounds-table-from : goal.offset_bounds-table-from
offset_bounds-table-from c = omega (arith, end_le c.requires (c.loop-i.invariant c.requires) c.loop-i-test.true)

pub slice_bounds-takes-end : goal.slice_bounds-takes-end
slice_bounds-takes-end c = omega (arith, end_le c.requires (c.loop-i.invariant c.requires) c.loop-i-test.true, long c.requires)

pub takes-requires : goal.takes-requires
takes-requires c = asked c.requires (c.loop-i.invariant c.requires) c.loop-i-test.true

pub offset_bounds-table-from-then-takes : goal.offset_bounds-table-from-then-takes
offset_bounds-table-from-then-takes c = omega (arith, end_le c.requires (c.loop-i.invariant c.requires) c.loop-i-test.true)

pub slice_bounds-by_rule-end : goal.slice_bounds-by_rule-end
slice_bounds-by_rule-end c = omega (arith, end_le c.requires (c.loop-i.invariant c.requires) c.loop-i-test.true, long c.requires)

pub by_rule-requires : goal.by_rule-requires
by_rule-requires c = by_rule c.requires (c.loop-i.invariant c.requires) c.loop-i-test.true _ c.takes.ensures c.if-takes.true

pub returns-then-takes : goal.returns-then-takes
returns-then-takes c = λ g. hit g (c.loop-i.invariant g) c.loop-i-test.true _ c.takes.ensures c.if-takes.true _ c.by_rule.ensures

pub loop-i-preserved : goal.loop-i-preserved
loop-i-preserved c = λ g. again g (c.loop-i.invariant g) c.loop-i-test.true _ c.takes.ensures c.if-takes.false

pub bounds-table-1 : goal.bounds-table-1
bounds-table-1 c = omega (arith, long c.requires)

pub returns : goal.returns
returns c = λ g. c.no_rule.ensures ∙ sym (finished g (c.loop-i.invariant g) c.loop-i-test.false)
