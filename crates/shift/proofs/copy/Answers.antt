use native.Mathlib.Omega.{arith}
use mathlib.Core.Path.{refl}
use lib.ListN.{length-set}
use Rattle.shift.proofs.Laws.{copy_more, copy_all}
use Rattle.shift.proofs.copy.Goals as goal

pub loop-i-init : goal.loop-i-init
loop-i-init c = (omega arith, refl, refl)

pub loop-i-preserved : goal.loop-i-preserved
loop-i-preserved c = (omega arith, rw length-set c.loop-i.invariant.1, copy_more c.loop-i.dst c.args.dst.now c.args.src.now c.loop-i.i c.requires (omega arith) c.loop-i.invariant.2)

pub shape_of-dst : goal.shape_of-dst
shape_of-dst c = c.loop-i.invariant.1

pub returns : goal.returns
returns c = copy_all _ c.args.dst.now c.args.src.now c.loop-i.i c.requires (omega arith) c.loop-i.invariant.0 c.loop-i.invariant.2
