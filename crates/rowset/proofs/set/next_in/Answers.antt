use mathlib.Core.Path.{refl}
use native.Mathlib.Omega.{arith}
use Rattle.rowset.proofs.MemberLaws.{cut_word, cut_first, cut_none}
use Rattle.rowset.proofs.set.next_in.Goals as goal

pub returns-then-w-gt0 : goal.returns-then-w-gt0
returns-then-w-gt0 c = let e = c.args in rw c.min.ensures (cut_first e.s.now e.from _ _ c.lowest.result _ refl (cut_word e.s.now e.from _ c.full-before.result _ refl c.full-before.ensures c.minus-w.ensures) c.lowest.ensures)

pub returns : goal.returns
returns c = let e = c.args in cut_none e.s.now e.from _ _ _ _ refl (cut_word e.s.now e.from _ c.full-before.result _ refl c.full-before.ensures c.minus-w.ensures) (omega (arith, c.if-w-gt0.false)) (omega arith) c.first_from.ensures
