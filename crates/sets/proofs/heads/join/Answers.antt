use Prim.Native.Nat.{max}
use Rattle.sets.proofs.HeadSets.{word_by_word}
use Rattle.sets.proofs.SetLaws.{bit_of_or}
use lib.Bits.{or_lt}
use native.Mathlib.Omega.{arith}
use Rattle.sets.proofs.heads.join.Goals as goal

pub returns : goal.returns
returns c = let a = c.args.a in let b = c.args.b in word_by_word max a.high a.low b.high b.low _ _ (omega arith) (omega arith) (or_lt 64 a.low b.low (omega arith) (omega arith)) (bit_of_or a.high b.high) (bit_of_or a.low b.low)
