use mathlib.Core.Path.{refl, sym, ◌∙◌}
use native.Mathlib.Omega.{arith}
use Rattle.overlap.proofs.Search.{start, there, row_task, given1, past1}
use Rattle.witness.proofs.Searching.{by_rows, pair_given, found_pair, none_found}
use Rattle.witness.proofs.lists.row_witness.Goals as goal

pub loop-at-init : goal.loop-at-init
loop-at-init c = let g = c.requires in (refl, there (row_task (by_rows g)) 0 (start (row_task (by_rows g))), λ g. start (row_task (by_rows g)))

pub rows_meet-requires : goal.rows_meet-requires
rows_meet-requires c = given1 (by_rows c.requires) c.loop-at.at (c.loop-at.invariant.2 c.requires) c.loop-at-test.true

pub pair_witness-requires : goal.pair_witness-requires
pair_witness-requires c = pair_given c.requires c.loop-at.at (c.loop-at.invariant.2 c.requires) c.loop-at-test.true c.loop-at.out c.loop-at.invariant.0

pub returns-then-rows_meet : goal.returns-then-rows_meet
returns-then-rows_meet c = λ g. found_pair g c.loop-at.at (c.loop-at.invariant.2 g) c.loop-at-test.true c.loop-at.out c.loop-at.invariant.0 (λ q. sym c.if-rows_meet.true ∙ c.rows_meet.ensures q) _ _ c.pair_witness.ensures

pub overflow_add-at : goal.overflow_add-at
overflow_add-at c = omega (arith, (past1 (by_rows c.requires) c.loop-at.at (c.loop-at.invariant.2 c.requires) c.loop-at-test.true (λ q. sym c.if-rows_meet.false ∙ c.rows_meet.ensures q)).1)

pub loop-at-preserved : goal.loop-at-preserved
loop-at-preserved c = (c.loop-at.invariant.0, there (row_task (by_rows c.requires)) _ (past1 (by_rows c.requires) c.loop-at.at (c.loop-at.invariant.2 c.requires) c.loop-at-test.true (λ q. sym c.if-rows_meet.false ∙ c.rows_meet.ensures q)).0, λ g. (past1 (by_rows g) c.loop-at.at (c.loop-at.invariant.2 g) c.loop-at-test.true (λ q. sym c.if-rows_meet.false ∙ c.rows_meet.ensures q)).0)

pub returns : goal.returns
returns c = λ g. none_found g c.loop-at.at (c.loop-at.invariant.2 g) c.loop-at-test.false c.loop-at.out c.loop-at.invariant.0
