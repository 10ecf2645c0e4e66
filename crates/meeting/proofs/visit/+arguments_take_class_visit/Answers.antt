use mathlib.Core.Path.{◌≡◌, refl, ap, ◌∙◌, sym, subst}
use mathlib.Core.Bool.{Bool, true, false, not, ◌&&◌}
use mathlib.Core.List.{List, [], ◌∷◌}
use Prim.Native.Nat.{ℕ, ◌<◌}
use native.Mathlib.Omega.{arith}
use borrow.Author.Tests.{le-ltb}
use Rattle.rowset.specs.Limits.{row_limit}
use Rattle.rowset.specs.Member.{member}
use Rattle.rowset.proofs.MemberLaws.{below_none}
use Rattle.meeting.proofs.Descending.{given, turn, finished, at_cells, deep_some, part_given, one_taken, some_roomy, args_given, many_taken, given_left, start_classes, next_class, all_classes, rises}
use Rattle.meeting.specs.Descent.{Taken}
use Rattle.meeting.proofs.visit.+arguments_take_class_visit.Goals as goal

whole : (s r : List ℕ) → ((q : ℕ) → q < row_limit → member r q ≡ (member s q && not (member (0 ∷ 0 ∷ 0 ∷ 0 ∷ []) q))) → (q : ℕ) → q < row_limit → member r q ≡ member s q
whole s r e q l = e q l ∙ ap (λ (b : Bool). member s q && not b) (below_none q l ∙ le-ltb q 0 (omega arith)) ∙ and_true (member s q)
  where
    and_true : (b : Bool) → (b && true) ≡ b
    and_true true = refl
    and_true false = refl

pub arguments-visit-requires : goal.arguments-visit-requires
arguments-visit-requires t c = let l = c.loop-j in (omega arith, (given c.requires.0 _ l._j l.cur l.m (l.invariant.2 c.requires.0) c.loop-j-test.true, λ q k z. omega (arith, c.requires.1 q k z, l.invariant.0), c.requires.2))

pub arguments-loop-j-preserved : goal.arguments-loop-j-preserved
arguments-loop-j-preserved t c = let l = c.loop-j in let v = c.visit in (v.auto.m ∙ l.invariant.0, omega (arith, c.loop-j-test.true), λ g. turn g _ l._j l.cur l.m (l.invariant.2 g) c.loop-j-test.true _ _ v.ensures)

pub arguments-returns : goal.arguments-returns
arguments-returns t c = λ g. let l = c.loop-j in finished g _ l._j l.cur l.m (l.invariant.2 g) (omega (arith, c.loop-j-test.false))

pub take_class-cell_at-c-requires : goal.take_class-cell_at-c-requires
take_class-cell_at-c-requires t c = at_cells c.requires.0 c.args.i c.requires.3 c.requires.4

pub take_class-sort-x-requires : goal.take_class-sort-x-requires
take_class-sort-x-requires t c = at_cells c.requires.0

pub take_class-returns-then-is_only : goal.take_class-returns-then-is_only
take_class-returns-then-is_only t c = λ g. let o = c.sort-x in let k = c.cell_at-c in subst (λ (z : List ℕ). Taken g c.args.i c.minus.result z c.args.m.now c.part.new.m) (sym c.stand.ensures) (one_taken g c.args.i c.requires.3 c.requires.4 k.result k.ensures o.result.same o.result.clash c.args.m.now c.part.new.m o.ensures.chosen o.ensures.chosen_2 c.part.ensures c.minus.result c.part_end-end.result c.minus.ensures (c.is_only.ensures.alone c.if-is_only.true) (omega (arith, c.stand-arg-1.given.0.1, c.requires.3)) (c.part_end-end.ensures (part_given g c.args.i c.requires.3 c.requires.4)))

pub take_class-overflow_sub-deep : goal.take_class-overflow_sub-deep
take_class-overflow_sub-deep t c = omega (arith, deep_some c.requires.0 c.args.i c.requires.3 c.requires.4)

pub take_class-arguments-requires : goal.take_class-arguments-requires
take_class-arguments-requires t c = let o = c.sort-x in let k = c.cell_at-c in let g = c.requires.0 in (omega (arith, deep_some g c.args.i c.requires.3 c.requires.4), (args_given g c.args.i c.requires.3 c.requires.4 k.result k.ensures o.result.same o.result.clash c.args.m.now c.part.new.m o.ensures.chosen o.ensures.chosen_2 c.part.ensures _ c.pass_all.ensures c.opens.result c.opens.ensures, λ q k z. omega (arith, some_roomy (member c.args.s.now) _ o.result.same _ o.ensures.chosen c.requires.1 q k z, c.part.auto.m), c.requires.2))

pub take_class-returns : goal.take_class-returns
take_class-returns t c = λ g. let o = c.sort-x in let k = c.cell_at-c in many_taken g c.args.i c.requires.3 c.requires.4 k.result k.ensures o.result.same o.result.clash c.args.m.now c.part.new.m o.ensures.chosen o.ensures.chosen_2 c.part.ensures _ c.pass_all.ensures c.opens.result c.opens.ensures c.minus-2.result _ _ c.minus-2.ensures (c.arguments.ensures (args_given g c.args.i c.requires.3 c.requires.4 k.result k.ensures o.result.same o.result.clash c.args.m.now c.part.new.m o.ensures.chosen o.ensures.chosen_2 c.part.ensures _ c.pass_all.ensures c.opens.result c.opens.ensures))

pub visit-loop-i-init : goal.visit-loop-i-init
visit-loop-i-init t c = (refl, c.first_in-i.ensures, λ g. start_classes g _ _ (whole _ _ c.minus-left.ensures))

pub visit-take_class-rest-requires : goal.visit-take_class-rest-requires
visit-take_class-rest-requires t c = let l = c.loop-i in let g = c.requires.0 in let n = l.invariant.2 g in (omega arith, (given_left g _ l.left l.cur l.m n, λ q k z. omega (arith, c.requires.1 q k (n.within q k z), l.invariant.0), c.requires.2, c.loop-i-test.true, l.invariant.1.there c.loop-i-test.true))

pub visit-loop-i-smaller : goal.visit-loop-i-smaller
visit-loop-i-smaller t c = let l = c.loop-i in let w = c.take_class-rest in let g = c.requires.0 in let T = w.ensures (given_left g _ l.left l.cur l.m (l.invariant.2 g)) in omega (arith, rises l.left w.result T.class l.i c.first_in-i-in-loop-i.result c.loop-i-test.true l.invariant.1 T.has_first T.left c.first_in-i-in-loop-i.ensures, c.first_in-i-in-loop-i.ensures.most)

pub visit-loop-i-preserved : goal.visit-loop-i-preserved
visit-loop-i-preserved t c = let l = c.loop-i in let w = c.take_class-rest in (w.auto.m ∙ l.invariant.0, c.first_in-i-in-loop-i.ensures, λ g. next_class g _ l.left l.cur l.m (l.invariant.2 g) l.i w.result _ _ (w.ensures (given_left g _ l.left l.cur l.m (l.invariant.2 g))))

pub visit-returns : goal.visit-returns
visit-returns t c = λ g. let l = c.loop-i in all_classes g _ l.left l.cur l.m (l.invariant.2 g) (λ q k. l.invariant.1.before q (omega (arith, k, c.loop-i-test.false)))
