use mathlib.Core.Path.{refl}
use native.Mathlib.Omega.{arith}
use Rattle.overlap.proofs.Laws.{as_lists}
use Rattle.overlap.proofs.Search.{start, there, list_task}
use Rattle.witness.proofs.Showing.{row_given, end_of, found_row, past_row, shown}
use Rattle.witness.proofs.lists.witness.Goals as goal

pub loop-at-init : goal.loop-at-init
loop-at-init c = let g = c.requires.0 in (refl, there (list_task (as_lists g)) 0 (start (list_task (as_lists g))), λ g. start (list_task (as_lists g)))

pub row_witness-requires : goal.row_witness-requires
row_witness-requires c = row_given c.requires.0 c.args.out.now c.requires.1 c.loop-at.at (c.loop-at.invariant.2 c.requires.0) c.loop-at.out c.loop-at.invariant.0 c.loop-at-test.true

pub returns-in-Some : goal.returns-in-Some
returns-in-Some c = λ g. shown g c.args.out.now c.requires.1 _ _ (found_row g c.args.out.now c.requires.1 c.loop-at.at (c.loop-at.invariant.2 g) c.loop-at.out c.loop-at.invariant.0 c.loop-at-test.true c.row_witness.result _ c.row_witness.ensures _ c.in-Some.is)

pub overflow_add-at : goal.overflow_add-at
overflow_add-at c = omega (arith, (past_row c.requires.0 c.args.out.now c.requires.1 c.loop-at.at (c.loop-at.invariant.2 c.requires.0) c.loop-at.out c.loop-at.invariant.0 c.loop-at-test.true c.row_witness.result _ c.row_witness.ensures c.in_default.is).1)

pub loop-at-preserved : goal.loop-at-preserved
loop-at-preserved c = ((past_row c.requires.0 c.args.out.now c.requires.1 c.loop-at.at (c.loop-at.invariant.2 c.requires.0) c.loop-at.out c.loop-at.invariant.0 c.loop-at-test.true c.row_witness.result _ c.row_witness.ensures c.in_default.is).2, there (list_task (as_lists c.requires.0)) _ (past_row c.requires.0 c.args.out.now c.requires.1 c.loop-at.at (c.loop-at.invariant.2 c.requires.0) c.loop-at.out c.loop-at.invariant.0 c.loop-at-test.true c.row_witness.result _ c.row_witness.ensures c.in_default.is).0, λ g. (past_row g c.args.out.now c.requires.1 c.loop-at.at (c.loop-at.invariant.2 g) c.loop-at.out c.loop-at.invariant.0 c.loop-at-test.true c.row_witness.result _ c.row_witness.ensures c.in_default.is).0)

pub returns : goal.returns
returns c = λ g. shown g c.args.out.now c.requires.1 _ _ (end_of g c.args.out.now c.requires.1 c.loop-at.at (c.loop-at.invariant.2 g) c.loop-at.out c.loop-at.invariant.0 c.loop-at-test.false)
