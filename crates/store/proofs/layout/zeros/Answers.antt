use mathlib.Core.Path.{refl}
use Prim.Native.Nat.{◌-◌}
use native.Mathlib.Omega.{arith}
use Rattle.store.proofs.Reading.{zeros_on, zeros_end}
use Rattle.store.proofs.layout.zeros.Goals as goal

pub loop-x-init : goal.loop-x-init
loop-x-init c = (omega arith, refl)

pub loop-x-preserved : goal.loop-x-preserved
loop-x-preserved c = (omega arith, zeros_on c.args.w.now c.loop-x.bits c.loop-x.x-index c.loop-x-test.true c.loop-x.invariant.1)

pub returns : goal.returns
returns c = zeros_end c.args.w.now c.loop-x.bits c.loop-x.x-index c.loop-x-test.false c.loop-x.invariant.1
