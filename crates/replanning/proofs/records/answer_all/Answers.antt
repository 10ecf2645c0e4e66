use mathlib.Core.Path.{refl, ap, ◌∙◌}
use Prim.Native.Nat.{◌*◌, min}
use native.Mathlib.Omega.{arith}
use lib.ListN.{length, length-set}
use lib.Seq.{lt-length-set}
use Rattle.std.proofs.lemmas.Result.{err_from_is_err_and}
use Rattle.signature.proofs.Numbers.{not_0}
use Rattle.replanning.proofs.Found.{all_found, whole, short, few_words, at_room, refused_here, going_next}
use Rattle.replanning.proofs.records.answer_all.Goals as goal

pub bounds-record-2 : goal.bounds-record-2
bounds-record-2 c = omega (arith, whole (c.requires.0.sig) c.args.tree.now (c.loop-k.invariant.4 c.requires.0 c.requires.1) c.in-Some.ensures.steps.0.1.2 c.in-Some.record.now c.next.new.self.iter.rest.now c.in-Some.ensures.steps.0.1.0 (c.in-Some.ensures.steps.0.1.1 ∙ ap (λ n. min n (length c.loop-k.k-iterator.iter.rest.now)) c.loop-k.invariant.2))

pub slice_bounds-run_decoded-end : goal.slice_bounds-run_decoded-end
slice_bounds-run_decoded-end c = omega (arith, whole (c.requires.0.sig) c.args.tree.now (c.loop-k.invariant.4 c.requires.0 c.requires.1) c.in-Some.ensures.steps.0.1.2 c.in-Some.record.now c.next.new.self.iter.rest.now c.in-Some.ensures.steps.0.1.0 (c.in-Some.ensures.steps.0.1.1 ∙ ap (λ n. min n (length c.loop-k.k-iterator.iter.rest.now)) c.loop-k.invariant.2), short (c.requires.0.sig) c.args.tree.now (c.loop-k.invariant.4 c.requires.0 c.requires.1) c.in-Some.ensures.steps.0.1.2 c.in-Some.record.now c.next.new.self.iter.rest.now c.in-Some.ensures.steps.0.1.0 (c.in-Some.ensures.steps.0.1.1 ∙ ap (λ n. min n (length c.loop-k.k-iterator.iter.rest.now)) c.loop-k.invariant.2))

pub run_decoded-requires : goal.run_decoded-requires
run_decoded-requires c = (c.requires.0, omega (arith, few_words (c.requires.0.sig) c.args.tree.now (c.loop-k.invariant.4 c.requires.0 c.requires.1) c.in-Some.ensures.steps.0.1.2 c.in-Some.record.now c.next.new.self.iter.rest.now c.in-Some.ensures.steps.0.1.0 (c.in-Some.ensures.steps.0.1.1 ∙ ap (λ n. min n (length c.loop-k.k-iterator.iter.rest.now)) c.loop-k.invariant.2), c.loop-k.invariant.5))

pub returns-in_err-a : goal.returns-in_err-a
returns-in_err-a c = let p = err_from_is_err_and c.from_residual.result c.from_residual.ensures.1 in rw (p.1, p.2) (λ g k. refused_here g.sig c.args.tree.now (c.loop-k.invariant.4 g k) c.in-Some.ensures.steps.0.1.2 c.in-Some.record.now c.next.new.self.iter.rest.now c.in-Some.ensures.steps.0.1.0 (c.in-Some.ensures.steps.0.1.1 ∙ ap (λ n. min n (length c.loop-k.k-iterator.iter.rest.now)) c.loop-k.invariant.2) _ _ (c.in_err-a.ensures g) (not_0 _))

pub bounds-answers-k : goal.bounds-answers-k
bounds-answers-k c = omega (arith, at_room (c.requires.0.sig) c.args.tree.now (c.loop-k.invariant.4 c.requires.0 c.requires.1) c.in-Some.ensures.steps.0.1.2 c.in-Some.record.now c.next.new.self.iter.rest.now c.in-Some.ensures.steps.0.1.0 (c.in-Some.ensures.steps.0.1.1 ∙ ap (λ n. min n (length c.loop-k.k-iterator.iter.rest.now)) c.loop-k.invariant.2), c.in-Some.ensures.steps.1, c.loop-k.invariant.3)

pub bounds-answers-k-in-loop-k : goal.bounds-answers-k-in-loop-k
bounds-answers-k-in-loop-k c = lt-length-set c.loop-k.answers (2 * c.in-Some.k) _ (omega (arith, at_room (c.requires.0.sig) c.args.tree.now (c.loop-k.invariant.4 c.requires.0 c.requires.1) c.in-Some.ensures.steps.0.1.2 c.in-Some.record.now c.next.new.self.iter.rest.now c.in-Some.ensures.steps.0.1.0 (c.in-Some.ensures.steps.0.1.1 ∙ ap (λ n. min n (length c.loop-k.k-iterator.iter.rest.now)) c.loop-k.invariant.2), c.in-Some.ensures.steps.1, c.loop-k.invariant.3))

pub loop-k-preserved : goal.loop-k-preserved
loop-k-preserved c = (c.in-Some.ensures.goes.keeps, tt, c.in-Some.ensures.steps.0.0 ∙ c.loop-k.invariant.2, simp length-set c.loop-k.invariant.3, λ g k. rw (c.in-Some.ensures.steps.1, c.in-Some.ensures.steps.2) (going_next g.sig c.args.tree.now (c.loop-k.invariant.4 g k) c.in-Some.ensures.steps.0.1.2 c.in-Some.record.now c.next.new.self.iter.rest.now c.in-Some.ensures.steps.0.1.0 (c.in-Some.ensures.steps.0.1.1 ∙ ap (λ n. min n (length c.loop-k.k-iterator.iter.rest.now)) c.loop-k.invariant.2) _ _ (c.in_ok-a.ensures g) refl), c.run_decoded.auto.visits ∙ c.loop-k.invariant.5)

pub returns : goal.returns
returns c = λ g k. let f = all_found g.sig c.args.tree.now (c.loop-k.invariant.4 g k) (omega (arith, c.in-None.ensures.steps.0.1.0)) in (f.0, λ e. f.1)
