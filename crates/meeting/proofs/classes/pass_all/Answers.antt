use Prim.Native.Nat.{◌+◌}
use native.Mathlib.Omega.{arith}
use lib.ListN.{get_or}
use Rattle.cell.specs.Cell.{cell_width}
use Rattle.rowset.proofs.WordLaws.{words_turn}
use Rattle.meeting.proofs.ClassLaws.{can_pass_word}
use Rattle.meeting.proofs.classes.pass_all.Goals as goal

pub pass-requires : goal.pass-requires
pass-requires c = let l = c.loop-w in (c.pass-arg-1.given.0.1, omega arith, can_pass_word c.args.s.now l.w c.args.cur.now l.cur c.requires l.invariant.1)

pub loop-w-preserved : goal.loop-w-preserved
loop-w-preserved c = let a = c.args in let l = c.loop-w in (omega arith, words_turn (λ q v. v + cell_width) (λ q. get_or a.cur.now q 0) a.s.now l.w (λ q. get_or l.cur q 0) (λ q. get_or c.pass.new.cur q 0) l.invariant.1 c.pass.ensures)
