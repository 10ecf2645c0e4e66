use mathlib.Core.Path.{refl, ◌∙◌}
use native.Mathlib.Omega.{arith}
use lib.ListN.{get_or, length-take, length-drop}
use Rattle.pattern.specs.Word.{form_of}
use Rattle.pattern.proofs.Opened.{some_own, own_in}
use Rattle.pattern.proofs.ReadSteps.{small}
use Rattle.ambiguity.proofs.Turns.{as_opens, start, part_given, part_le, turn, turn_ambiguous, ends_ambiguous, ends_clear, few_parts, twice_so}
use Rattle.ambiguity.proofs.Twice.{some_word}
use Rattle.ambiguity.proofs.ambiguous.+ambiguous_at.Goals as goal

pub bounds-p-0 : goal.bounds-p-0
bounds-p-0 t c = omega (arith, some_word c.requires)

pub loop-i-init : goal.loop-i-init
loop-i-init t c = (omega arith, omega (arith, c.own_words-at.ensures, some_own (form_of c.classify-w.result)), rw c.own_words-at.ensures (own_in (as_opens c.requires) (form_of c.classify-w.result) c.classify-w.ensures), refl, refl, λ g. rw c.own_words-at.ensures (start g (form_of c.classify-w.result) c.classify-w.ensures c.side_behind-side.result c.is_variable-vars.result c.parts-count.result c.side_behind-side.ensures c.is_variable-vars.ensures c.parts-count.ensures))

pub part_kind-requires : goal.part_kind-requires
part_kind-requires t c = (c.requires.known.decoded.long, small (get_or c.args.p.now 0 0) _ c.classify-w.ensures, omega (arith, few_parts c.requires (form_of c.classify-w.result) c.classify-w.ensures, c.parts-count.ensures))

pub ambiguous_at-requires : goal.ambiguous_at-requires
ambiguous_at-requires t c = (simp (length-take, length-drop) (omega (arith, some_word c.requires, c.loop-i.invariant.1)), part_given c.requires c.parts-count.result c.loop-i.i (c.loop-i.invariant.5 c.requires) (omega arith) c.wide-kind.result (c.wide-kind.ensures ∙ c.part_kind.ensures) _ _ c.loop-i.invariant.3 c.loop-i.invariant.4)

pub returns-in_err-more : goal.returns-in_err-more
returns-in_err-more t c = λ g. rw c.from_residual.ensures (turn_ambiguous g c.parts-count.result c.loop-i.i (c.loop-i.invariant.5 g) (omega arith) c.wide-kind.result (c.wide-kind.ensures ∙ c.part_kind.ensures) _ _ c.loop-i.invariant.3 c.loop-i.invariant.4 c.in_err-more.ensures)

pub overflow_add-at : goal.overflow_add-at
overflow_add-at t c = let h = part_le c.requires c.parts-count.result c.loop-i.i (c.loop-i.invariant.5 c.requires) (omega arith) c.wide-kind.result (c.wide-kind.ensures ∙ c.part_kind.ensures) _ _ c.loop-i.invariant.3 c.loop-i.invariant.4 c.in_ok-more.more c.in_ok-more.used c.in_ok-more.ensures in omega (arith, h)

pub loop-i-preserved : goal.loop-i-preserved
loop-i-preserved t c = (omega arith, omega arith, part_le c.requires c.parts-count.result c.loop-i.i (c.loop-i.invariant.5 c.requires) (omega arith) c.wide-kind.result (c.wide-kind.ensures ∙ c.part_kind.ensures) _ _ c.loop-i.invariant.3 c.loop-i.invariant.4 c.in_ok-more.more c.in_ok-more.used c.in_ok-more.ensures, c.ambiguous_at.auto.out ∙ c.loop-i.invariant.3, c.ambiguous_at.auto.work ∙ c.loop-i.invariant.4, λ g. turn g c.parts-count.result c.loop-i.i (c.loop-i.invariant.5 g) (omega arith) c.wide-kind.result (c.wide-kind.ensures ∙ c.part_kind.ensures) _ _ c.loop-i.invariant.3 c.loop-i.invariant.4 c.in_ok-more.more c.in_ok-more.used c.in_ok-more.ensures _ refl)

pub returns-then-twice : goal.returns-then-twice
returns-then-twice t c = λ g. ends_ambiguous g c.parts-count.result c.loop-i.i (c.loop-i.invariant.5 g) (omega arith) _ (twice_so g _ _ c.loop-i.invariant.3 c.loop-i.invariant.4 c.loop-i.vars _ c.twice.ensures) c.if-twice.true

pub returns : goal.returns
returns t c = λ g. ends_clear g c.parts-count.result c.loop-i.i (c.loop-i.invariant.5 g) (omega arith) _ (twice_so g _ _ c.loop-i.invariant.3 c.loop-i.invariant.4 c.loop-i.vars _ c.twice.ensures) c.if-twice.false
