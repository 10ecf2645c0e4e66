use Prim.Native.Nat.{◌-◌}
use native.Mathlib.Omega.{arith}
use Rattle.decoding.proofs.Fewest.{lowering_more}
use Rattle.decoding.proofs.decode.lower_sizes.Goals as goal

pub lower_size-lowered-requires : goal.lower_size-lowered-requires
lower_size-lowered-requires c = (c.requires.0, omega (arith, c.loop-k.invariant.few), c.requires.2 (c.loop-k.k - 1) (omega (arith, c.loop-k.invariant.few)), c.loop-k.invariant.sizes)

pub loop-k-preserved : goal.loop-k-preserved
loop-k-preserved c = lowering_more _ _ _ _ _ _ _ _ c.loop-k-test.true c.requires.1 c.loop-k.invariant c.lower_size-lowered.ensures
