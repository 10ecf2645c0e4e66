use mathlib.Core.Path.{refl}
use native.Mathlib.Omega.{arith}
use Rattle.rowset.proofs.MemberLaws.{word_none, word_first}
use Rattle.rowset.proofs.set.first_from.Goals as goal

pub returns-then-w-gt0 : goal.returns-then-w-gt0
returns-then-w-gt0 c = let l = c.loop-j in rw c.min.ensures (word_first _ _ l.j _ c.lowest.result _ (omega (arith, l.invariant.0)) l.invariant.2 (λ j k. refl) (λ j k. absurd (omega (arith, l.invariant.0))) c.lowest.ensures)

pub loop-j-preserved : goal.loop-j-preserved
loop-j-preserved c = (omega arith, omega arith, word_none _ _ c.loop-j.j c.loop-j.invariant.2 (omega (arith, c.if-w-gt0.false)))
