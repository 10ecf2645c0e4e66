use mathlib.Core.Path.{refl}
use native.Mathlib.Omega.{arith}
use lib.ListN.{length-set, take}
use Rattle.rowlist.proofs.Growing.{copy_start, copy_step, copy_end}
use Rattle.rowlist.proofs.grow.copy.Goals as goal

pub loop-i-init : goal.loop-i-init
loop-i-init c = (omega arith, c.requires.0, c.requires.1, refl, copy_start c.args.x.now c.args.out.now c.args.at)

pub loop-i-preserved : goal.loop-i-preserved
loop-i-preserved c = let l = c.loop-i in (omega arith, l.invariant.1, simp length-set l.invariant.2, simp length-set l.invariant.3, copy_step c.args.x.now l.out (take c.args.at c.args.out.now) c.args.at l.i (omega arith) (omega arith) l.invariant.4)

pub returns : goal.returns
returns c = let l = c.loop-i in copy_end c.args.n l.i _ c.args.x.now l.out (take c.args.at c.args.out.now) l.invariant.0 (omega arith) l.invariant.4
