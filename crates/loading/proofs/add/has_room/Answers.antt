use native.Mathlib.Omega.{arith}
use Rattle.loading.proofs.Roomy.{rows_short, work_short, both_long}
use Rattle.loading.proofs.add.has_room.Goals as goal

pub overflow_add-used : goal.overflow_add-used
overflow_add-used c = omega (arith, c.requires)

pub overflow_add-used-2 : goal.overflow_add-used-2
overflow_add-used-2 c = omega (arith, c.requires, c.words_room-room.ensures)

pub returns-then-rows-used : goal.returns-then-rows-used
returns-then-rows-used c = let s = c.args in rows_short s.n s.used s.rows s.work (omega (arith, c.words_room-room.ensures, c.if-rows-used.true))

pub returns-then-work-room : goal.returns-then-work-room
returns-then-work-room c = let s = c.args in work_short s.n s.used s.rows s.work (omega (arith, c.words_room-room.ensures, c.if-work-room.true))

pub returns : goal.returns
returns c = let s = c.args in both_long s.n s.used s.rows s.work (omega (arith, c.words_room-room.ensures, c.if-rows-used.false)) (omega (arith, c.words_room-room.ensures, c.if-work-room.false))
