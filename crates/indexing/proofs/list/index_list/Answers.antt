use mathlib.Core.Path.{refl, ◌∙◌}
use native.Mathlib.Omega.{arith}
use Rattle.indexing.proofs.ListLaws.{filling_start, word_there, next_row, row_bounds, row_room, row_given, row_filled, filling_end}
use Rattle.indexing.proofs.list.index_list.Goals as goal

pub loop-at-init : goal.loop-at-init
loop-at-init c = (refl, λ g. filling_start g _ _ _)

pub offset_bounds-lists-at : goal.offset_bounds-lists-at
offset_bounds-lists-at c = omega (arith, word_there c.requires _ _ _ _ _ _ (c.loop-at.invariant.1 c.requires))

pub bounds-lists-at : goal.bounds-lists-at
bounds-lists-at c = word_there c.requires _ _ _ _ _ _ (c.loop-at.invariant.1 c.requires)

pub offset_bounds-lists-at-in-loop-at : goal.offset_bounds-lists-at-in-loop-at
offset_bounds-lists-at-in-loop-at c = omega (arith, word_there c.requires _ _ _ _ _ _ (c.loop-at.invariant.1 c.requires))

pub bounds-lists-at-in-loop-at : goal.bounds-lists-at-in-loop-at
bounds-lists-at-in-loop-at c = word_there c.requires _ _ _ _ _ _ (c.loop-at.invariant.1 c.requires)

pub overflow_add-at : goal.overflow_add-at
overflow_add-at c = omega (arith, word_there c.requires _ _ _ _ _ _ (c.loop-at.invariant.1 c.requires))

pub index_row-requires : goal.index_row-requires
index_row-requires c = (row_given c.requires _ _ _ _ _ _ (c.loop-at.invariant.1 c.requires) (next_row c.requires _ _ _ _ _ _ (c.loop-at.invariant.1 c.requires) c.loop-at-test.true), omega (arith, row_room c.requires _ _ _ _ _ _ (c.loop-at.invariant.1 c.requires) (next_row c.requires _ _ _ _ _ _ (c.loop-at.invariant.1 c.requires) c.loop-at-test.true), c.loop-at.invariant.0), (row_bounds c.requires _ _ _ _ _ _ (c.loop-at.invariant.1 c.requires) (next_row c.requires _ _ _ _ _ _ (c.loop-at.invariant.1 c.requires) c.loop-at-test.true)).1)

pub overflow_add-at-in-loop-at : goal.overflow_add-at-in-loop-at
overflow_add-at-in-loop-at c = omega (arith, row_bounds c.requires _ _ _ _ _ _ (c.loop-at.invariant.1 c.requires) (next_row c.requires _ _ _ _ _ _ (c.loop-at.invariant.1 c.requires) c.loop-at-test.true))

pub overflow_add-at-in-loop-at-2 : goal.overflow_add-at-in-loop-at-2
overflow_add-at-in-loop-at-2 c = omega (arith, row_bounds c.requires _ _ _ _ _ _ (c.loop-at.invariant.1 c.requires) (next_row c.requires _ _ _ _ _ _ (c.loop-at.invariant.1 c.requires) c.loop-at-test.true))

pub overflow_add-q : goal.overflow_add-q
overflow_add-q c = omega (arith, row_room c.requires _ _ _ _ _ _ (c.loop-at.invariant.1 c.requires) (next_row c.requires _ _ _ _ _ _ (c.loop-at.invariant.1 c.requires) c.loop-at-test.true))

pub loop-at-smaller : goal.loop-at-smaller
loop-at-smaller c = omega (arith, word_there c.requires _ _ _ _ _ _ (c.loop-at.invariant.1 c.requires))

pub loop-at-preserved : goal.loop-at-preserved
loop-at-preserved c = (c.index_row.auto.rows ∙ c.loop-at.invariant.0, λ g. row_filled g _ _ _ _ _ _ (c.loop-at.invariant.1 g) (next_row g _ _ _ _ _ _ (c.loop-at.invariant.1 g) c.loop-at-test.true) _ c.index_row.ensures)

pub shape_of-rows : goal.shape_of-rows
shape_of-rows c = c.loop-at.invariant.0

pub returns : goal.returns
returns c = λ g. filling_end g _ _ _ _ _ _ (c.loop-at.invariant.1 g) c.loop-at-test.false
