use mathlib.Core.Path.{◌∙◌}
use native.Mathlib.Omega.{arith}
use Rattle.leaf.proofs.LeafLaws.{cell_more, cell_full, cell_end, pairing_less}
use Rattle.leaf.proofs.PairLaws.{sofar_start}
use Rattle.leaf.proofs.variable_pairs.Goals as goal

pub loop-p-init : goal.loop-p-init
loop-p-init c = sofar_start _ _ _ c.requires.2

pub one_pair-requires : goal.one_pair-requires
one_pair-requires c = (pairing_less _ c.requires.0 (omega (arith, c.loop-p.auto.p, c.loop-p-test.true)), c.requires.1, c.loop-p.invariant.fits)

pub shape_of-out-in_err-to : goal.shape_of-out-in_err-to
shape_of-out-in_err-to c = c.one_pair.auto.out ∙ c.loop-p.invariant.len

pub returns-in_err-to : goal.returns-in_err-to
returns-in_err-to c = rw c.from_residual.ensures (cell_full c.args.a.now c.args.rows.now c.args.vis.now c.args.r c.args.x c.loop-p.p _ _ _ _ _ _ _ c.loop-p-test.true c.loop-p.invariant c.in_err-to.ensures)

pub loop-p-preserved : goal.loop-p-preserved
loop-p-preserved c = cell_more c.args.a.now c.args.rows.now c.args.vis.now c.args.r c.args.x c.loop-p.p _ _ _ _ _ _ _ c.loop-p-test.true c.loop-p.invariant c.in_ok-to.ensures c.one_pair.auto.out

pub shape_of-out : goal.shape_of-out
shape_of-out c = c.loop-p.invariant.len

pub returns : goal.returns
returns c = cell_end c.args.a.now c.args.rows.now c.args.vis.now c.args.r c.args.x c.loop-p.p _ _ _ _ _ (omega (arith, c.loop-p-test.false)) c.loop-p.invariant
