use native.Mathlib.Omega.{arith}
use Rattle.sets.proofs.SetLaws.{bit_minus}
use Rattle.sets.proofs.set.minus.Goals as goal

pub returns : goal.returns
returns c = λ j. bit_minus c.args.a c.args.b j (omega arith) (omega arith)
