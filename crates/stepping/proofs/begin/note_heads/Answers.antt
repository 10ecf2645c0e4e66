use native.Mathlib.Omega.{arith}
use lib.ListN.{length-set}
use Rattle.stepping.proofs.BeginLaws.{heads_more, heads_all}
use Rattle.stepping.proofs.begin.note_heads.Goals as goal

pub loop-k-preserved : goal.loop-k-preserved
loop-k-preserved c = let l = c.loop-k in (omega arith, omega arith, rw (length-set, length-set) l.invariant.2, λ g. heads_more g l.st l.k _ _ (omega (arith, c.kinds_of-n.ensures)) (omega (arith, c.requires.1)) c.first_of.ensures c.count_of.ensures (l.invariant.3 g))

pub returns : goal.returns
returns c = λ g. heads_all g c.loop-k.st c.loop-k.k (omega (arith, c.kinds_of-n.ensures)) (c.loop-k.invariant.3 g)
