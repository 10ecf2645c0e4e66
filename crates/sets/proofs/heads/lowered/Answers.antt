use Rattle.sets.proofs.HeadSets.{lowered_fits, bit_lowered}
use native.Mathlib.Omega.{arith}
use Rattle.sets.proofs.heads.lowered.Goals as goal

pub overflow_add-low : goal.overflow_add-low
overflow_add-low c = let s = c.args.s in record { fits = lowered_fits s.high s.low (omega arith) }

pub returns : goal.returns
returns c = let s = c.args.s in bit_lowered s.high s.low
