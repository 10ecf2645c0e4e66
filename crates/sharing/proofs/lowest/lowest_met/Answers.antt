use mathlib.Core.Path.{refl}
use native.Mathlib.Omega.{arith}
use borrow.Author.Rules.{rules}
use Rattle.sharing.proofs.Lows.{to_gather, to_meet, bounds, lowest}
use Rattle.sharing.proofs.lowest.lowest_met.Goals as goal

pub gather_lists-held-requires : goal.gather_lists-held-requires
gather_lists-held-requires c = (c.requires.0.lists, refl)

pub gather-all-requires : goal.gather-all-requires
gather-all-requires c = let g = c.requires.0 in let n = c.gather_lists-held in (to_gather g n.result _ (n.ensures g.lists), search rules)

pub meet-requires : goal.meet-requires
meet-requires c = let g = c.requires.0 in let n = c.gather_lists-held in let q = c.gather-all in let h = n.ensures g.lists in (to_meet g n.result _ h q.result _ (q.ensures (to_gather g n.result _ h)) _ c.requires.2, c.requires.1)

pub least_met-requires : goal.least_met-requires
least_met-requires c = let g = c.requires.0 in let n = c.gather_lists-held in let q = c.gather-all in let w = c.meet in let h = n.ensures g.lists in let b = bounds g n.result _ h q.result _ (q.ensures (to_gather g n.result _ h)) in (b.0, b.1, omega (arith, b.1, c.requires.2, w.auto.m))

pub shape_of-m : goal.shape_of-m
shape_of-m c = c.meet.auto.m

pub returns : goal.returns
returns c = λ g. let n = c.gather_lists-held in let q = c.gather-all in let w = c.meet in let h = n.ensures g.lists in let h2 = q.ensures (to_gather g n.result _ h) in lowest g n.result _ h q.result _ h2 _ c.least_met.result (w.ensures (to_meet g n.result _ h q.result _ h2 _ c.requires.2)) c.least_met.ensures
