use mathlib.Core.Path.{◌∙◌}
use Prim.Native.Nat.{◌+◌}
use native.Mathlib.Omega.{arith}
use lib.ListN.{length-set}
use Rattle.sets.proofs.SetLaws.{ones_without}
use Rattle.cell.specs.Cell.{cell_width}
use Rattle.rowset.proofs.WordLaws.{left_next}
use Rattle.meeting.proofs.ClassLaws.{moved_turn, moved_end}
use Rattle.meeting.proofs.classes.pass.Goals as goal

pub loop-left-smaller : goal.loop-left-smaller
loop-left-smaller c = let l = c.loop-left in let m = c.lowest-b in omega (arith, ones_without l.left c.rest-left.result m.result l.invariant.0 (omega arith) m.ensures.member (c.rest-left.ensures m.result m.ensures))

pub loop-left-preserved : goal.loop-left-preserved
loop-left-preserved c = let a = c.args in let l = c.loop-left in let m = c.lowest-b in (
  omega arith,
  length-set l.cur (a.base + m.result) _ ∙ l.invariant.1,
  left_next a.base l.left m.result m.ensures c.rest-left.result (c.rest-left.ensures m.result m.ensures) a.word l.invariant.2,
  moved_turn a.base a.word l.left m.result c.rest-left.result cell_width a.cur.now l.cur (omega (arith, m.ensures.small, c.requires.1, l.invariant.1)) l.invariant.2 m.ensures (c.rest-left.ensures m.result m.ensures) l.invariant.3,
)

pub returns : goal.returns
returns c = let a = c.args in let l = c.loop-left in moved_end a.base a.word l.left cell_width a.cur.now l.cur c.loop-left-test.false l.invariant.3
