use Prim.Native.Nat.{ℕ, ◌-◌, ◌^◌}
use Rattle.sets.proofs.HeadSets.{word_by_word}
use Rattle.sets.proofs.SetLaws.{bit_minus}
use lib.Bits.{and_le_l}
use lib.Dec.{eqb}
use mathlib.Core.Bool.{cond}
use native.Mathlib.Omega.{arith}
use Rattle.sets.proofs.heads.minus.Goals as goal

pub returns : goal.returns
returns c = let a = c.args.a in let b = c.args.b in word_by_word (λ (x y : ℕ). cond (eqb y 1) 0 x) a.high a.low b.high b.low _ _ (omega arith) (omega arith) (omega (arith, and_le_l a.low (2 ^ 64 - 1 - b.low))) (λ j. bit_minus a.high b.high j (omega arith) (omega arith)) (λ j. bit_minus a.low b.low j (omega arith) (omega arith))
