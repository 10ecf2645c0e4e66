use Prim.Native.Nat.{ℕ}
use Rattle.sets.proofs.HeadSets.{bit_low, bit_above}
use lib.Dec.{eqb}
use mathlib.Core.Path.{ap, sym, ◌∙◌}
use native.Mathlib.Omega.{arith}
use Rattle.sets.proofs.heads.has.Goals as goal

pub returns-then-i-lt-SET_LIMIT : goal.returns-then-i-lt-SET_LIMIT
returns-then-i-lt-SET_LIMIT c = let s = c.args.s in c.has.ensures ∙ ap (λ (n : ℕ). eqb n 1) (sym (bit_low 64 s.high s.low c.args.i c.if-i-lt-SET_LIMIT.true))

pub returns : goal.returns
returns c = let s = c.args.s in c.has-2.ensures ∙ ap (λ (n : ℕ). eqb n 1) (sym (bit_above s.high s.low c.args.i (omega arith) c.if-i-lt-SET_LIMIT.false))
