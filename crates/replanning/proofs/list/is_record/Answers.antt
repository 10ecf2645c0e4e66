use mathlib.Core.Path.{◌∙◌}
use native.Mathlib.Omega.{arith}
use Rattle.replanning.proofs.Lists.{no_booking, too_long, zeros_behind}
use Rattle.replanning.proofs.list.is_record.Goals as goal

pub overflow_cast-n : goal.overflow_cast-n
overflow_cast-n c = omega (arith, c.shared_slice_known-2-1.given 2)

pub returns-then-n-eq0 : goal.returns-then-n-eq0
returns-then-n-eq0 c = no_booking c.args.w.now c.if-n-eq0.true

pub returns-then-n-gt-ROOM : goal.returns-then-n-gt-ROOM
returns-then-n-gt-ROOM c = too_long c.args.w.now c.if-n-eq0.false c.if-n-gt-ROOM.true

pub returns : goal.returns
returns c = c.zeros.ensures ∙ zeros_behind c.args.w.now c.if-n-eq0.false c.if-n-gt-ROOM.false
