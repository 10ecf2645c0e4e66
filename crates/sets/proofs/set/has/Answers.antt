use mathlib.Core.Path.{ap, ◌∙◌}
use Prim.Native.Nat.{ℕ, ◌/◌, ◌^◌}
use lib.Bits.{and_mask}
use lib.Dec.{eqb}
use Rattle.sets.proofs.SetLaws.{bit_shr}
use Rattle.sets.proofs.set.has.Goals as goal

pub returns : goal.returns
returns c = ap (λ (n : ℕ). eqb n 1) (and_mask (c.args.s / 2 ^ c.args.i) 1 ∙ bit_shr c.args.s c.args.i)
