use mathlib.Core.Path.{refl}
use native.Mathlib.Omega.{arith}
use Rattle.ambiguity.proofs.Meeting.{first_given, second_given, meet_given, matrix_there, lists_answered}
use Rattle.ambiguity.proofs.both.meet_at.Goals as goal

pub gather-a-requires : goal.gather-a-requires
gather-a-requires c = (first_given c.requires _, refl)

pub gather-n-requires : goal.gather-n-requires
gather-n-requires c = let g = c.gather-a in (second_given c.requires _ _ g.result g.ensures, g.auto.cur)

pub meet-requires : goal.meet-requires
meet-requires c = let g = c.gather-a in let h = c.gather-n in (meet_given c.requires _ _ g.result g.ensures _ h.result h.ensures, c.requires.long)

pub some_met-requires : goal.some_met-requires
some_met-requires c = let g = c.gather-a in let h = c.gather-n in let m = matrix_there c.requires _ _ g.result g.ensures _ h.result h.ensures in (m.0, m.1, omega (arith, m.2, c.meet.auto.m))

pub shape_of-work : goal.shape_of-work
shape_of-work c = c.meet.auto.m

pub returns : goal.returns
returns c = λ q. let g = c.gather-a in let h = c.gather-n in lists_answered q _ _ g.result g.ensures _ h.result h.ensures _ c.meet.ensures c.some_met.result c.some_met.ensures
