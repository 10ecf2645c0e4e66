use native.Mathlib.Omega.{arith}
use Rattle.leaf.proofs.LeafLaws.{used_more}
use Rattle.leaf.proofs.used.Goals as goal

pub loop-p-init : goal.loop-p-init
loop-p-init c = λ x p z l. absurd (omega arith)

pub cell_of-c-requires : goal.cell_of-c-requires
cell_of-c-requires c = (c.requires.0, omega (arith, c.requires.1))

pub loop-p-preserved : goal.loop-p-preserved
loop-p-preserved c = used_more c.args.a.now c.args.rows.now c.args.r c.loop-p.p c.loop-p.u c.join-u.result c.cell_of-c.result c.loop-p.invariant c.cell_of-c.ensures c.join-u.ensures

pub returns : goal.returns
returns c = λ x p z l. c.loop-p.invariant x p z (omega arith)
