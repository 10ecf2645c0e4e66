use mathlib.Core.Path.{◌∙◌}
use Prim.Native.Nat.{◌+◌}
use native.Mathlib.Omega.{arith}
use Rattle.sets.proofs.SetLaws.{ones_without}
use Rattle.rowset.specs.Member.{member}
use Rattle.rowset.proofs.WordLaws.{low_in, left_next}
use Rattle.meeting.proofs.Notes.{note_bits_turn, note_bits_end}
use Rattle.meeting.proofs.matrix.note_word.Goals as goal

pub clear_row-requires : goal.clear_row-requires
clear_row-requires c = let a = c.args in let l = c.loop-left in let m = c.lowest-b in (omega (arith, m.ensures.small, c.requires.0), omega (arith, l.invariant.1, c.requires.1 (a.base + m.result) (omega (arith, m.ensures.small, c.requires.0)) (l.invariant.2 (a.base + m.result) (low_in a.base l.left m.result m.ensures))))

pub loop-left-smaller : goal.loop-left-smaller
loop-left-smaller c = let l = c.loop-left in let m = c.lowest-b in omega (arith, ones_without l.left c.rest-left.result m.result l.invariant.0 (omega arith) m.ensures.member (c.rest-left.ensures m.result m.ensures))

pub loop-left-preserved : goal.loop-left-preserved
loop-left-preserved c = let a = c.args in let l = c.loop-left in let m = c.lowest-b in let r = c.clear_row in (omega arith, r.auto.m ∙ l.invariant.1, left_next a.base l.left m.result m.ensures c.rest-left.result (c.rest-left.ensures m.result m.ensures) a.word l.invariant.2, note_bits_turn (member a.off.now) a.m.now a.base a.word l.left m.result c.rest-left.result l.m r.new.m l.invariant.2 m.ensures (c.rest-left.ensures m.result m.ensures) l.invariant.3 r.ensures)

pub returns : goal.returns
returns c = let a = c.args in let l = c.loop-left in note_bits_end (member a.off.now) a.m.now a.base a.word l.left l.m c.loop-left-test.false l.invariant.3
