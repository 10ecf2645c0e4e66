use mathlib.Core.Path.{refl, ◌∙◌}
use native.Mathlib.Omega.{arith}
use lib.ListN.{length-set}
use Rattle.meeting.specs.Descent.{cell_of_row}
use Rattle.meeting.specs.Part.{same_cell, apart_cell}
use Rattle.rowset.proofs.WordLaws.{in_set}
use Rattle.meeting.proofs.ClassLaws.{words_none, words_chosen}
use Rattle.meeting.proofs.classes.sort.Goals as goal

pub loop-w-init : goal.loop-w-init
loop-w-init c = let s = c.args.s.now in (omega arith, refl, refl, words_none _ s, words_none _ s)

pub sort_word-x-requires : goal.sort_word-x-requires
sort_word-x-requires c = (omega arith, λ q l e. c.requires q l (in_set c.args.s.now c.loop-w.w q e))

pub loop-w-preserved : goal.loop-w-preserved
loop-w-preserved c = let a = c.args in let l = c.loop-w in let r = c.sort_word-x in let t = c.loop-w-test.true in (
  omega arith,
  length-set l.same l.w _ ∙ l.invariant.1,
  length-set l.clash l.w _ ∙ l.invariant.2,
  words_chosen (λ q. same_cell a.c (cell_of_row a.a.now a.cur.now q)) a.s.now l.same l.w r.result.same (omega (arith, t, l.invariant.1)) l.invariant.3 r.ensures.word_chosen,
  words_chosen (λ q. apart_cell a.c (cell_of_row a.a.now a.cur.now q)) a.s.now l.clash l.w r.result.clash (omega (arith, t, l.invariant.2)) l.invariant.4 r.ensures.word_chosen_2,
)
