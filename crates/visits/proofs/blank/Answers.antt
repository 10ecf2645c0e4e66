use Prim.Native.Nat.{ℕ, max}
use mathlib.Core.Path.{◌≡◌, ◌∙◌}
use Rattle.std.proofs.Common.{nat_cmp, rules}
use Rattle.std.specs.Ordering.{ord_max}
use native.Mathlib.Omega.{arith}
use Rattle.visits.proofs.CursorLaws.{top_start, top_next, top_all, blank_none}
use Rattle.visits.proofs.blank.Goals as goal

max_is : (a b : ℕ) → ord_max nat_cmp a b ≡ max a b
max_is a b = search rules

pub returns-then-r-n : goal.returns-then-r-n
returns-then-r-n c = blank_none _ _ _ _ _ _ c.if-r-n.true c.first_in-r.ensures

pub loop-r-init : goal.loop-r-init
loop-r-init c = let f = c.first_in-r.ensures in (f.most, f.there, top_start _ _ _ _ _ _ f)

pub own-o-requires : goal.own-o-requires
own-o-requires c = let i = c.loop-r.invariant in let e = c.requires in (omega arith, omega arith, (e.3 _ (omega arith) (i.1 c.loop-r-test.true)).0)

pub next_in-r-requires : goal.next_in-r-requires
next_in-r-requires c = (omega arith, omega arith)

pub loop-r-smaller : goal.loop-r-smaller
loop-r-smaller c = omega (arith, c.next_in-r.ensures.least)

pub loop-r-preserved : goal.loop-r-preserved
loop-r-preserved c = let x = c.next_in-r.ensures in let i = c.loop-r.invariant in let e = c.requires in (x.most, x.there, rw (c.max-m.ensures ∙ max_is c.loop-r.m c.own-o.result) (top_next _ _ _ _ _ _ _ _ _ i.2 c.own-o.ensures (omega (arith, c.own-o.ensures, (e.3 _ (omega (arith, c.loop-r-test.true)) (i.1 c.loop-r-test.true)).1)) x))

pub overflow_sub-result : goal.overflow_sub-result
overflow_sub-result c = c.loop-r.invariant.2.most

pub returns : goal.returns
returns c = let f = c.first_in-r in top_all _ _ _ _ _ _ _ f.result c.loop-r.invariant.2 (omega (arith, c.loop-r-test.false)) (omega (arith, f.ensures.most, c.if-r-n.false)) f.ensures
