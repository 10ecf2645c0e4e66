use mathlib.Core.Path.{sym, subst}
use Prim.Native.Nat.{◌+◌}
use native.Mathlib.Omega.{arith}
use Rattle.decoding.specs.Decoding.{Marked}
use Rattle.decoding.proofs.Marks.{marked_plain, mark_more}
use Rattle.decoding.proofs.decode.mark_numbers.Goals as goal

pub returns-then-numbers-eq0 : goal.returns-then-numbers-eq0
returns-then-numbers-eq0 c = let p = c.requires in marked_plain _ _ p.0.long p.0.few (p.1 c.if-numbers-eq0.true)

pub loop-c-preserved : goal.loop-c-preserved
loop-c-preserved c = let t = c.requires.0 in let n = c.loop-c.c in let i = c.loop-c.invariant in (omega arith, subst (λ z. Marked c.args.t.now (n + 1) z) (sym c.mark.ensures) (mark_more c.args.t.now c.loop-c.t n t.long (omega (arith, t.few)) i.1 (t.each n (omega arith)).kind))
