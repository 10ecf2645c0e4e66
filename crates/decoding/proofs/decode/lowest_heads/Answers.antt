use native.Mathlib.Omega.{arith}
use Rattle.decoding.proofs.decode.lowest_heads.Goals as goal

pub lowest_head-requires : goal.lowest_head-requires
lowest_head-requires c = (c.requires.0, omega arith, c.requires.2 c.loop-k.k (omega arith), c.requires.3)
