use mathlib.Core.Path.{refl, sym, ◌∙◌}
use Prim.Native.Nat.{◌-◌, ◌<◌}
use native.Mathlib.Omega.{arith}
use Rattle.rowset.specs.Member.{member}
use Rattle.rowset.proofs.MemberLaws.{settled_start, settled_past, settled_next}
use Rattle.column.proofs.ColumnLaws.{stays_virtual}
use Rattle.column.proofs.keep.Goals as goal

pub copy-requires : goal.copy-requires
copy-requires c = c.requires.1

pub loop-from-init : goal.loop-from-init
loop-from-init c = (omega arith, c.copy.auto.x ∙ c.requires.1, settled_start c.copy.ensures)

pub next_in-r-requires : goal.next_in-r-requires
next_in-r-requires c = (omega arith, c.requires.0.few)

pub shape_of-next-then-r-n : goal.shape_of-next-then-r-n
shape_of-next-then-r-n c = c.loop-from.invariant.1 ∙ sym c.requires.1

pub returns-then-r-n : goal.returns-then-r-n
returns-then-r-n c = let e = c.args in let x = c.next_in-r.ensures in λ r l. (settled_past _ c.loop-from.invariant.2 (omega (arith, x.least)) (λ q a b. stays_virtual (member e.s.now) (member e.re.now) e.a.now e.rows.now _ e.j q _ (x.between q a b) refl)).done r (omega (arith, c.if-r-n.true)) (omega (arith, c.requires.0.few))

pub stays-b-requires : goal.stays-b-requires
stays-b-requires c = let g = c.requires.0 in let x = c.next_in-r in let l : x.result < c.args.n = omega (arith, x.ensures.most, c.if-r-n.false) in let h = g.cell x.result l (x.ensures.there l) in (omega (arith, g.few), omega (arith, g.cursors), omega (arith, g.long), g.bit_small, h.0, h.1)

pub put-requires : goal.put-requires
put-requires c = (omega (arith, c.requires.0.few, c.next_in-r.ensures.most, c.if-r-n.false), c.loop-from.invariant.1)

pub overflow_add-from : goal.overflow_add-from
overflow_add-from c = omega (arith, c.requires.0.few, c.next_in-r.ensures.most, c.if-r-n.false)

pub loop-from-smaller : goal.loop-from-smaller
loop-from-smaller c = omega (arith, c.next_in-r.ensures.most, c.next_in-r.ensures.least, c.if-r-n.false)

pub loop-from-preserved : goal.loop-from-preserved
loop-from-preserved c = let e = c.args in let x = c.next_in-r in let y = x.ensures in let l : x.result < e.n = omega (arith, y.most, c.if-r-n.false) in (omega arith, c.put.auto.s ∙ c.loop-from.invariant.1, settled_next _ _ (settled_past _ c.loop-from.invariant.2 (omega (arith, y.least)) (λ q a b. stays_virtual (member e.s.now) (member e.re.now) e.a.now e.rows.now _ e.j q _ (y.between q a b) refl)) (c.stays-b.ensures (member e.re.now) (y.there l)) c.put.ensures)

pub shape_of-next : goal.shape_of-next
shape_of-next c = c.loop-from.invariant.1 ∙ sym c.requires.1

pub returns : goal.returns
returns c = λ r l. c.loop-from.invariant.2.done r (omega (arith, c.loop-from-test.false)) (omega (arith, c.requires.0.few))
