use Prim.Native.Nat.{min}
use Rattle.sets.proofs.HeadSets.{word_by_word}
use Rattle.sets.proofs.SetLaws.{bit_of_and}
use lib.Bits.{and_lt}
use native.Mathlib.Omega.{arith}
use Rattle.sets.proofs.heads.meet.Goals as goal

pub returns : goal.returns
returns c = let a = c.args.a in let b = c.args.b in word_by_word min a.high a.low b.high b.low _ _ (omega arith) (omega arith) (and_lt 64 a.low b.low (omega arith) (omega arith)) (bit_of_and a.high b.high) (bit_of_and a.low b.low)
