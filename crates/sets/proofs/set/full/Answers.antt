use native.Mathlib.Omega.{arith}
use lib.Pow.{pow_pos}
use Rattle.sets.proofs.SetLaws.{bit_all, bit_full, one_shl}
use Rattle.sets.proofs.set.full.Goals as goal

pub returns-then-n-eq-SET_LIMIT : goal.returns-then-n-eq-SET_LIMIT
returns-then-n-eq-SET_LIMIT c = λ j. bit_all c.args.n j c.if-n-eq-SET_LIMIT.true

pub overflow_sub-result : goal.overflow_sub-result
overflow_sub-result c = omega (arith, one_shl c.args.n (omega arith), pow_pos c.args.n)

pub returns : goal.returns
returns c = λ j. bit_full c.args.n j (omega arith)
