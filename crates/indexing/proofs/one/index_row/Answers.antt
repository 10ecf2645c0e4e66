use mathlib.Core.Path.{◌∙◌}
use native.Mathlib.Omega.{arith}
use lib.ListN.{length-set}
use Rattle.path.proofs.IndexLaws.{row_indexed}
use Rattle.indexing.proofs.one.index_row.Goals as goal

pub overflow_cast-rows : goal.overflow_cast-rows
overflow_cast-rows c = omega (arith, c.requires.1, c.requires.2)

pub overflow_mul-rows : goal.overflow_mul-rows
overflow_mul-rows c = omega (arith, c.requires.1, c.requires.2)

pub offset_bounds-rows-r : goal.offset_bounds-rows-r
offset_bounds-rows-r c = omega (arith, c.requires.1, c.requires.2)

pub bounds-rows-r : goal.bounds-rows-r
bounds-rows-r c = omega (arith, c.requires.1, c.requires.2)

pub overflow_add-rows : goal.overflow_add-rows
overflow_add-rows c = omega (arith, c.requires.1, c.requires.2)

pub overflow_cast-rows-2 : goal.overflow_cast-rows-2
overflow_cast-rows-2 c = omega (arith, c.requires.1, c.requires.2)

pub overflow_mul-rows-2 : goal.overflow_mul-rows-2
overflow_mul-rows-2 c = omega (arith, c.requires.1, c.requires.2)

pub overflow_add-rows-2 : goal.overflow_add-rows-2
overflow_add-rows-2 c = omega (arith, c.requires.1, c.requires.2)

pub offset_bounds-rows-r-2 : goal.offset_bounds-rows-r-2
offset_bounds-rows-r-2 c = omega (arith, c.requires.1, c.requires.2)

pub bounds-rows-r-2 : goal.bounds-rows-r-2
bounds-rows-r-2 c = simp length-set (omega (arith, c.requires.1))

pub overflow_mul-rows-3 : goal.overflow_mul-rows-3
overflow_mul-rows-3 c = omega (arith, c.requires.1, c.requires.2)

pub overflow_add-rows-3 : goal.overflow_add-rows-3
overflow_add-rows-3 c = omega (arith, c.requires.1, c.requires.2)

pub offset_bounds-rows-r-3 : goal.offset_bounds-rows-r-3
offset_bounds-rows-r-3 c = omega (arith, c.requires.1, c.requires.2)

pub bounds-rows-r-3 : goal.bounds-rows-r-3
bounds-rows-r-3 c = simp length-set (omega (arith, c.requires.1))

pub overflow_mul-rows-4 : goal.overflow_mul-rows-4
overflow_mul-rows-4 c = omega (arith, c.requires.1, c.requires.2)

pub overflow_add-rows-4 : goal.overflow_add-rows-4
overflow_add-rows-4 c = omega (arith, c.requires.1, c.requires.2)

pub offset_bounds-rows-r-4 : goal.offset_bounds-rows-r-4
offset_bounds-rows-r-4 c = omega (arith, c.requires.1, c.requires.2)

pub bounds-rows-r-4 : goal.bounds-rows-r-4
bounds-rows-r-4 c = simp length-set (omega (arith, c.requires.1))

pub count_columns-requires : goal.count_columns-requires
count_columns-requires c = (c.requires.0, simp length-set c.requires.1)

pub shape_of-rows : goal.shape_of-rows
shape_of-rows c = c.count_columns.auto.rows ∙ (simp length-set)

pub returns : goal.returns
returns c = row_indexed c.args.t.now c.args.a.now c.args.rows.now _ c.args.r c.args.start c.args.len c.args.rule c.args.plan c.requires.1 c.count_columns.ensures
