use native.Mathlib.Omega.{arith}
use Rattle.meeting.proofs.Listing.{to_meet}
use Rattle.meeting.proofs.lists.+apart.Goals as goal

pub apart_by-requires : goal.apart_by-requires
apart_by-requires t c = let e = c.requires in let g = e.0 in let n = c.gather_lists-count in let w = c.meet in (g, w.ensures (to_meet g n.result _ _ (n.ensures g) e.2), omega (arith, g.few, e.2, w.auto.m))

pub returns : goal.returns
returns t c = λ g. let e = c.requires in let n = c.gather_lists-count in c.apart_by.ensures g (c.meet.ensures (to_meet g n.result _ _ (n.ensures g) e.2))
