use mathlib.Core.Path.{refl}
use native.Mathlib.Omega.{arith}
use lib.ListN.{length-take, length-drop}
use Rattle.witness.proofs.Filling.{start, end, front, few, turn}
use Rattle.witness.proofs.fill.fill.Goals as goal

pub loop-left-init : goal.loop-left-init
loop-left-init c = (refl, λ g. start g)

pub cell_at-c-requires : goal.cell_at-c-requires
cell_at-c-requires c = (let l = c.loop-left in let g = c.requires in front g l.i l.n l.left l.out (l.invariant.1 g) c.loop-left-test.true).see

pub offset_bounds-out-n : goal.offset_bounds-out-n
offset_bounds-out-n c = omega (arith, (let l = c.loop-left in let g = c.requires in front g l.i l.n l.left l.out (l.invariant.1 g) c.loop-left-test.true).room)

pub slice_bounds-place-count : goal.slice_bounds-place-count
slice_bounds-place-count c = omega (arith, (let l = c.loop-left in let g = c.requires in front g l.i l.n l.left l.out (l.invariant.1 g) c.loop-left-test.true).room)

pub slice_bounds-place-start : goal.slice_bounds-place-start
slice_bounds-place-start c = omega (arith, (let l = c.loop-left in let g = c.requires in front g l.i l.n l.left l.out (l.invariant.1 g) c.loop-left-test.true).room)

pub place-n-requires : goal.place-n-requires
place-n-requires c = let f = (let l = c.loop-left in let g = c.requires in front g l.i l.n l.left l.out (l.invariant.1 g) c.loop-left-test.true) in (simp (length-take, length-drop) (omega (arith, f.room)), f.place c.cell_at-c.result c.cell_at-c.ensures)

pub overflow_add-n : goal.overflow_add-n
overflow_add-n c = omega (arith, (let g = c.requires in few g _ _ _ _ (let l = c.loop-left in let p = c.place-n in turn g l.i l.n l.left l.out c.cell_at-c.result c.opens-w.result p.result _ (l.invariant.1 g) c.loop-left-test.true c.cell_at-c.ensures c.opens-w.ensures p.ensures.named p.ensures.unnamed)).1)

pub overflow_add-left : goal.overflow_add-left
overflow_add-left c = omega (arith, (let g = c.requires in few g _ _ _ _ (let l = c.loop-left in let p = c.place-n in turn g l.i l.n l.left l.out c.cell_at-c.result c.opens-w.result p.result _ (l.invariant.1 g) c.loop-left-test.true c.cell_at-c.ensures c.opens-w.ensures p.ensures.named p.ensures.unnamed)).1)

pub overflow_add-i : goal.overflow_add-i
overflow_add-i c = omega (arith, (let l = c.loop-left in let g = c.requires in front g l.i l.n l.left l.out (l.invariant.1 g) c.loop-left-test.true).see)

pub loop-left-smaller : goal.loop-left-smaller
loop-left-smaller c = omega (arith, (let l = c.loop-left in let g = c.requires in front g l.i l.n l.left l.out (l.invariant.1 g) c.loop-left-test.true).see)

pub loop-left-preserved : goal.loop-left-preserved
loop-left-preserved c = ((let g = c.requires in few g _ _ _ _ (let l = c.loop-left in let p = c.place-n in turn g l.i l.n l.left l.out c.cell_at-c.result c.opens-w.result p.result _ (l.invariant.1 g) c.loop-left-test.true c.cell_at-c.ensures c.opens-w.ensures p.ensures.named p.ensures.unnamed)).0, λ g. (let l = c.loop-left in let p = c.place-n in turn g l.i l.n l.left l.out c.cell_at-c.result c.opens-w.result p.result _ (l.invariant.1 g) c.loop-left-test.true c.cell_at-c.ensures c.opens-w.ensures p.ensures.named p.ensures.unnamed))

pub returns : goal.returns
returns c = λ g. let l = c.loop-left in end g l.i l.n l.left l.out (l.invariant.1 g) (omega (arith, c.loop-left-test.false))
