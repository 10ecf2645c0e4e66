use Rattle.sets.proofs.HeadSets.{size_words}
use lib.Count.{ones-le}
use native.Mathlib.Omega.{arith}
use Rattle.sets.proofs.heads.size.Goals as goal

pub overflow_add-result : goal.overflow_add-result
overflow_add-result c = let s = c.args.s in omega (arith, ones-le 64 s.low (omega arith), ones-le 64 s.high (omega arith))

pub returns : goal.returns
returns c = let s = c.args.s in size_words s.high s.low (omega arith) (omega arith)
