use mathlib.Core.Path.{◌∙◌}
use Prim.Native.Nat.{◌+◌}
use native.Mathlib.Omega.{arith}
use Rattle.leaf.proofs.LeafLaws.{variable_more, variable_full, variable_end, variables_past}
use Rattle.leaf.proofs.PairLaws.{sofar_start}
use Rattle.leaf.proofs.pairs.Goals as goal

pub used-bound-requires : goal.used-bound-requires
used-bound-requires c = (c.requires.long, c.requires.cells)

pub loop-x-init : goal.loop-x-init
loop-x-init c = (c.next_variable-x.ensures.most, variables_past c.args.a.now c.args.rows.now c.args.vis.now c.args.r c.args.q c.used-bound.result 0 _ _ _ _ _ c.used-bound.ensures c.next_variable-x.ensures (sofar_start _ _ _ (omega arith)))

pub variable_pairs-requires : goal.variable_pairs-requires
variable_pairs-requires c = (c.requires, omega arith, c.loop-x.invariant.1.fits)

pub shape_of-out-in_err-to : goal.shape_of-out-in_err-to
shape_of-out-in_err-to c = c.variable_pairs.auto.out ∙ c.loop-x.invariant.1.len

pub returns-in_err-to : goal.returns-in_err-to
returns-in_err-to c = rw c.from_residual.ensures (variable_full c.args.a.now c.args.rows.now c.args.vis.now c.args.r c.args.q c.loop-x.x _ _ _ _ _ _ c.loop-x-test.true c.loop-x.invariant.1 c.in_err-to.ensures)

pub overflow_add-x : goal.overflow_add-x
overflow_add-x c = omega (arith, c.loop-x-test.true)

pub next_variable-x-requires-in-loop-x : goal.next_variable-x-requires-in-loop-x
next_variable-x-requires-in-loop-x c = omega (arith, c.loop-x-test.true)

pub loop-x-smaller : goal.loop-x-smaller
loop-x-smaller c = omega (arith, c.next_variable-x-in-loop-x.ensures.least, c.loop-x-test.true)

pub loop-x-preserved : goal.loop-x-preserved
loop-x-preserved c = (c.next_variable-x-in-loop-x.ensures.most, variables_past c.args.a.now c.args.rows.now c.args.vis.now c.args.r c.args.q c.used-bound.result (c.loop-x.x + 1) _ _ _ _ _ c.used-bound.ensures c.next_variable-x-in-loop-x.ensures (variable_more c.args.a.now c.args.rows.now c.args.vis.now c.args.r c.args.q c.loop-x.x _ _ _ _ _ _ c.loop-x-test.true c.loop-x.invariant.1 c.in_ok-to.ensures c.variable_pairs.auto.out))

pub shape_of-out : goal.shape_of-out
shape_of-out c = c.loop-x.invariant.1.len

pub returns : goal.returns
returns c = variable_end c.args.a.now c.args.rows.now c.args.vis.now c.args.r c.args.q c.loop-x.x _ _ _ _ (omega (arith, c.loop-x-test.false)) c.loop-x.invariant.1
