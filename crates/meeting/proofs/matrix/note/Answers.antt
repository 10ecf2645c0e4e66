use mathlib.Core.Path.{◌∙◌}
use native.Mathlib.Omega.{arith}
use Rattle.rowset.specs.Member.{member}
use Rattle.rowset.proofs.WordLaws.{in_set}
use Rattle.meeting.proofs.Notes.{note_words_turn}
use Rattle.meeting.proofs.matrix.note.Goals as goal

pub note_word-requires : goal.note_word-requires
note_word-requires c = let a = c.args in let l = c.loop-w in (omega arith, λ q k e. omega (arith, l.invariant.1, c.requires q k (in_set a.s.now l.w q e)))

pub loop-w-preserved : goal.loop-w-preserved
loop-w-preserved c = let a = c.args in let l = c.loop-w in let r = c.note_word in (omega arith, r.auto.m ∙ l.invariant.1, note_words_turn (member a.off.now) a.m.now a.s.now l.w l.m r.new.m l.invariant.2 r.ensures)
