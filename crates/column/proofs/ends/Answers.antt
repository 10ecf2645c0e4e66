use mathlib.Core.Bool.{true}
use Prim.Native.Nat.{◌-◌, ◌+◌}
use native.Mathlib.Omega.{arith}
use Rattle.sets.specs.Heads.{number_of}
use Rattle.rowset.specs.Member.{member}
use Rattle.column.specs.Column.{edge_of}
use Rattle.column.proofs.ColumnLaws.{ends_first, ends_next, ends_past, ends_last, no_edge}
use Rattle.column.proofs.ends.Goals as goal

pub first_in-r-requires : goal.first_in-r-requires
first_in-r-requires c = c.requires.few

pub loop-r-init : goal.loop-r-init
loop-r-init c = let f = c.first_in-r.ensures in let e = c.args in (f.most, f.there, ends_past (edge_of e.a.now e.rows.now (member e.re.now) e.cur.now) 0 _ (number_of c.only-hs.result) (omega arith) (ends_first (edge_of e.a.now e.rows.now (member e.re.now) e.cur.now) (number_of c.only-hs.result) c.only-hs.ensures) (λ j q a l. no_edge (member e.re.now) e.a.now e.rows.now _ j q (f.before q l)))

pub with_edges-next-requires : goal.with_edges-next-requires
with_edges-next-requires c = let g = c.requires in let l = c.loop-r in let h = g.cell l.r c.loop-r-test.true (l.invariant.1 c.loop-r-test.true) in (omega (arith, g.few), omega (arith, g.cursors), omega (arith, g.long), omega arith, h.0, h.1)

pub overflow_add-r : goal.overflow_add-r
overflow_add-r c = omega (arith, c.requires.few)

pub next_in-r-requires : goal.next_in-r-requires
next_in-r-requires c = (omega arith, c.requires.few)

pub loop-r-smaller : goal.loop-r-smaller
loop-r-smaller c = omega (arith, c.next_in-r.ensures.least)

pub loop-r-preserved : goal.loop-r-preserved
loop-r-preserved c = let x = c.next_in-r.ensures in let e = c.args in let l = c.loop-r in let h = edge_of e.a.now e.rows.now (member e.re.now) e.cur.now in (x.most, x.there, ends_past h (l.r + 1) _ (number_of c.with_edges-next.result) (omega (arith, x.least)) (ends_next h l.r (number_of l.hs) (number_of c.with_edges-next.result) l.invariant.2 (c.with_edges-next.ensures (member e.re.now) (l.invariant.1 c.loop-r-test.true))) (λ j q a b. no_edge (member e.re.now) e.a.now e.rows.now _ j q (x.between q a b)))

pub returns : goal.returns
returns c = let e = c.args in ends_last (edge_of e.a.now e.rows.now (member e.re.now) e.cur.now) e.n c.loop-r.r (number_of c.loop-r.hs) (number_of c.full-levels.result) (number_of c.meet.result) c.loop-r-test.false c.loop-r.invariant.0 c.loop-r.invariant.2 c.full-levels.ensures c.meet.ensures
