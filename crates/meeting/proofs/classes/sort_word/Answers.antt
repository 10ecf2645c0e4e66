use mathlib.Core.Path.{ap, ◌∙◌}
use native.Mathlib.Omega.{arith}
use Rattle.sets.proofs.SetLaws.{ones_without}
use Rattle.meeting.specs.Descent.{cell_of_row}
use Rattle.meeting.specs.Part.{same_cell, apart_cell}
use Rattle.rowset.proofs.WordLaws.{left_next}
use Rattle.meeting.proofs.ClassLaws.{none_chosen, chosen_turn, chosen_end}
use Rattle.meeting.proofs.classes.sort_word.Goals as goal

pub loop-left-init : goal.loop-left-init
loop-left-init c = let a = c.args in (omega (arith, c.ranges.word.fits), λ q e. e, none_chosen _ a.base a.word, none_chosen _ a.base a.word)

pub loop-left-smaller : goal.loop-left-smaller
loop-left-smaller c = omega (arith, ones_without c.loop-left.left c.rest-left.result c.lowest-b.result (omega arith) (omega arith) c.lowest-b.ensures.member (c.rest-left.ensures _ c.lowest-b.ensures))

pub loop-left-preserved : goal.loop-left-preserved
loop-left-preserved c = let a = c.args in let l = c.loop-left in let m = c.lowest-b in (
  omega arith,
  left_next a.base l.left m.result m.ensures c.rest-left.result (c.rest-left.ensures m.result m.ensures) a.word l.invariant.1,
  chosen_turn (λ q. same_cell a.c (cell_of_row a.a.now a.cur.now q)) a.base a.word l.left m.result c.rest-left.result _ _ _ l.invariant.1 m.ensures (c.rest-left.ensures m.result m.ensures) l.invariant.2 (c.is_same.ensures ∙ ap (same_cell a.c) c.cell_at-d.ensures) c.with_if-same.ensures,
  chosen_turn (λ q. apart_cell a.c (cell_of_row a.a.now a.cur.now q)) a.base a.word l.left m.result c.rest-left.result _ _ _ l.invariant.1 m.ensures (c.rest-left.ensures m.result m.ensures) l.invariant.3 (c.is_apart.ensures ∙ ap (apart_cell a.c) c.cell_at-d.ensures) c.with_if-clash.ensures,
)

pub returns : goal.returns
returns c = let a = c.args in let l = c.loop-left in record {
  word_chosen = chosen_end (λ q. same_cell a.c (cell_of_row a.a.now a.cur.now q)) a.base a.word l.left l.same c.loop-left-test.false l.invariant.2;
  word_chosen_2 = chosen_end (λ q. apart_cell a.c (cell_of_row a.a.now a.cur.now q)) a.base a.word l.left l.clash c.loop-left-test.false l.invariant.3;
}
