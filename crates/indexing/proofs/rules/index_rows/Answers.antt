use mathlib.Core.Path.{refl, ◌∙◌}
use native.Mathlib.Omega.{arith}
use Rattle.indexing.proofs.RulesLaws.{long, start, done, end_le, list_le, given, again}
use Rattle.indexing.proofs.rules.index_rows.Goals as goal

pub bounds-table-0 : goal.bounds-table-0
bounds-table-0 c = omega (arith, long c.requires)

pub loop-i-init : goal.loop-i-init
loop-i-init c = (refl, λ g. start g _)

pub overflow_add-from : goal.overflow_add-from
overflow_add-from c = omega (arith, list_le c.requires (c.loop-i.invariant.1 c.requires) c.loop-i-test.true)

pub offset_bounds-table-at : goal.offset_bounds-table-at
offset_bounds-table-at c = omega (arith, end_le c.requires (c.loop-i.invariant.1 c.requires) c.loop-i-test.true)

pub bounds-table-at : goal.bounds-table-at
bounds-table-at c = omega (arith, end_le c.requires (c.loop-i.invariant.1 c.requires) c.loop-i-test.true, long c.requires)

pub overflow_add-at : goal.overflow_add-at
overflow_add-at c = omega (arith, end_le c.requires (c.loop-i.invariant.1 c.requires) c.loop-i-test.true)

pub offset_bounds-table-at-in-loop-i : goal.offset_bounds-table-at-in-loop-i
offset_bounds-table-at-in-loop-i c = omega (arith, end_le c.requires (c.loop-i.invariant.1 c.requires) c.loop-i-test.true)

pub bounds-table-at-in-loop-i : goal.bounds-table-at-in-loop-i
bounds-table-at-in-loop-i c = omega (arith, end_le c.requires (c.loop-i.invariant.1 c.requires) c.loop-i-test.true, long c.requires)

pub index_list-r-requires : goal.index_list-r-requires
index_list-r-requires c = given c.requires (c.loop-i.invariant.1 c.requires) c.loop-i-test.true _ c.loop-i.invariant.0

pub overflow_add-from-in-loop-i : goal.overflow_add-from-in-loop-i
overflow_add-from-in-loop-i c = omega (arith, list_le c.requires (c.loop-i.invariant.1 c.requires) c.loop-i-test.true)

pub offset_bounds-lists-from : goal.offset_bounds-lists-from
offset_bounds-lists-from c = omega (arith, list_le c.requires (c.loop-i.invariant.1 c.requires) c.loop-i-test.true)

pub bounds-lists-from : goal.bounds-lists-from
bounds-lists-from c = (list_le c.requires (c.loop-i.invariant.1 c.requires) c.loop-i-test.true).1

pub overflow_add-from-in-loop-i-2 : goal.overflow_add-from-in-loop-i-2
overflow_add-from-in-loop-i-2 c = omega (arith, list_le c.requires (c.loop-i.invariant.1 c.requires) c.loop-i-test.true)

pub overflow_add-at-in-loop-i : goal.overflow_add-at-in-loop-i
overflow_add-at-in-loop-i c = omega (arith, end_le c.requires (c.loop-i.invariant.1 c.requires) c.loop-i-test.true)

pub overflow_add-at-in-loop-i-2 : goal.overflow_add-at-in-loop-i-2
overflow_add-at-in-loop-i-2 c = omega (arith, end_le c.requires (c.loop-i.invariant.1 c.requires) c.loop-i-test.true)

pub offset_bounds-table-at-in-loop-i-2 : goal.offset_bounds-table-at-in-loop-i-2
offset_bounds-table-at-in-loop-i-2 c = omega (arith, end_le c.requires (c.loop-i.invariant.1 c.requires) c.loop-i-test.true)

pub bounds-table-at-in-loop-i-2 : goal.bounds-table-at-in-loop-i-2
bounds-table-at-in-loop-i-2 c = omega (arith, end_le c.requires (c.loop-i.invariant.1 c.requires) c.loop-i-test.true, long c.requires)

pub overflow_cast-at : goal.overflow_cast-at
overflow_cast-at c = omega (arith, end_le c.requires (c.loop-i.invariant.1 c.requires) c.loop-i-test.true)

pub overflow_add-at-in-loop-i-3 : goal.overflow_add-at-in-loop-i-3
overflow_add-at-in-loop-i-3 c = omega (arith, end_le c.requires (c.loop-i.invariant.1 c.requires) c.loop-i-test.true)

pub loop-i-preserved : goal.loop-i-preserved
loop-i-preserved c = (c.index_list-r.auto.rows ∙ c.loop-i.invariant.0, λ g. again g (c.loop-i.invariant.1 g) c.loop-i-test.true _ c.loop-i.invariant.0 _ _ c.index_list-r.ensures)

pub shape_of-rows : goal.shape_of-rows
shape_of-rows c = c.loop-i.invariant.0

pub returns : goal.returns
returns c = λ g. done g (c.loop-i.invariant.1 g) c.loop-i-test.false
