use native.Mathlib.Omega.{arith}
use Rattle.decoding.proofs.Fewest.{size_one, size_not, size_less}
use Rattle.decoding.proofs.decode.lower_size.Goals as goal

pub returns-then-old-le1 : goal.returns-then-old-le1
returns-then-old-le1 c = size_one _ _ _ c.if-old-le1.true

pub returns-then-old-size : goal.returns-then-old-size
returns-then-old-size c = size_not _ _ _ (omega arith)

pub returns : goal.returns
returns c = size_less _ _ _ _ c.size_by-size.ensures (omega arith)
