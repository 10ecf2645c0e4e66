use mathlib.Core.Path.{refl, ◌∙◌}
use native.Mathlib.Omega.{arith}
use Rattle.cell.proofs.CursorFacts.{joined_fits}
use Rattle.cell.proofs.LockstepFacts.{as_cells, of_rows}
use Rattle.sets.proofs.HeadSets.{empty_is, some_is}
use Rattle.cell.proofs.Turns.{start, finish, front, known_of, out_of, turned, again, less}
use Rattle.cell.proofs.cell.combine.Goals as goal

pub loop-left-init : goal.loop-left-init
loop-left-init c = (refl, λ g. start g)

pub look-p-requires : goal.look-p-requires
look-p-requires c = (let l = c.loop-left in front (as_cells c.requires) l.x l.y l.n l.left l.out c.loop-left-test.true (l.invariant.1 (as_cells c.requires))).see_a

pub look-q-requires : goal.look-q-requires
look-q-requires c = (let l = c.loop-left in front (as_cells c.requires) l.x l.y l.n l.left l.out c.loop-left-test.true (l.invariant.1 (as_cells c.requires))).see_b

pub shape_of-out-then-is_empty : goal.shape_of-out-then-is_empty
shape_of-out-then-is_empty c = c.loop-left.invariant.0

pub returns-then-is_empty : goal.returns-then-is_empty
returns-then-is_empty c = λ r. let g = as_cells r in let l = c.loop-left in of_rows r _ _ _ (out_of g l.x l.y l.n l.left l.out c.look-p.result c.look-q.result c.join-c.result c.look-p.ensures c.look-q.ensures c.join-c.ensures c.loop-left-test.true (l.invariant.1 g) (empty_is _ c.is_empty.ensures c.if-is_empty.true))

pub put-requires : goal.put-requires
put-requires c = let l = c.loop-left in (omega (arith, (let l = c.loop-left in front (as_cells c.requires) l.x l.y l.n l.left l.out c.loop-left-test.true (l.invariant.1 (as_cells c.requires))).room, l.invariant.0), joined_fits c.args.a.now c.args.b.now (λ i. (c.shared_slice_known-2-1.given i).fits) (λ i. (c.shared_slice_known-3-1.given i).fits) l.x l.y _ _ _ c.look-p.ensures c.look-q.ensures c.join-c.ensures)

pub overflow_add-n : goal.overflow_add-n
overflow_add-n c = omega (arith, (let l = c.loop-left in front (as_cells c.requires) l.x l.y l.n l.left l.out c.loop-left-test.true (l.invariant.1 (as_cells c.requires))).room)

pub opens-w-requires : goal.opens-w-requires
opens-w-requires c = let l = c.loop-left in known_of (as_cells c.requires) l.x l.y l.n l.left l.out c.look-p.result c.look-q.result c.join-c.result c.look-p.ensures c.look-q.ensures c.join-c.ensures c.loop-left-test.true (let l = c.loop-left in front (as_cells c.requires) l.x l.y l.n l.left l.out c.loop-left-test.true (l.invariant.1 (as_cells c.requires)))

pub overflow_add-left : goal.overflow_add-left
overflow_add-left c = omega (arith, (let l = c.loop-left in turned (as_cells c.requires) l.x l.y l.n l.left l.out c.look-p.result c.look-q.result c.join-c.result c.look-p.ensures c.look-q.ensures c.join-c.ensures c.loop-left-test.true c.opens-w.result (l.invariant.1 (as_cells c.requires)) (some_is _ c.is_empty.ensures c.if-is_empty.false) c.opens-w.ensures).few)

pub next-x-requires : goal.next-x-requires
next-x-requires c = omega (arith, (let l = c.loop-left in turned (as_cells c.requires) l.x l.y l.n l.left l.out c.look-p.result c.look-q.result c.join-c.result c.look-p.ensures c.look-q.ensures c.join-c.ensures c.loop-left-test.true c.opens-w.result (l.invariant.1 (as_cells c.requires)) (some_is _ c.is_empty.ensures c.if-is_empty.false) c.opens-w.ensures).few, (let l = c.loop-left in front (as_cells c.requires) l.x l.y l.n l.left l.out c.loop-left-test.true (l.invariant.1 (as_cells c.requires))).wildcards_a, (let l = c.loop-left in front (as_cells c.requires) l.x l.y l.n l.left l.out c.loop-left-test.true (l.invariant.1 (as_cells c.requires))).within_a)

pub next-y-requires : goal.next-y-requires
next-y-requires c = omega (arith, (let l = c.loop-left in turned (as_cells c.requires) l.x l.y l.n l.left l.out c.look-p.result c.look-q.result c.join-c.result c.look-p.ensures c.look-q.ensures c.join-c.ensures c.loop-left-test.true c.opens-w.result (l.invariant.1 (as_cells c.requires)) (some_is _ c.is_empty.ensures c.if-is_empty.false) c.opens-w.ensures).few, (let l = c.loop-left in front (as_cells c.requires) l.x l.y l.n l.left l.out c.loop-left-test.true (l.invariant.1 (as_cells c.requires))).wildcards_b, (let l = c.loop-left in front (as_cells c.requires) l.x l.y l.n l.left l.out c.loop-left-test.true (l.invariant.1 (as_cells c.requires))).within_b)

pub loop-left-smaller : goal.loop-left-smaller
loop-left-smaller c = let l = c.loop-left in let g = as_cells c.requires in less g l.x l.y l.n l.left l.out c.look-p.result c.look-q.result c.join-c.result c.opens-w.result c.next-x.result c.next-y.result (let l = c.loop-left in turned g l.x l.y l.n l.left l.out c.look-p.result c.look-q.result c.join-c.result c.look-p.ensures c.look-q.ensures c.join-c.ensures c.loop-left-test.true c.opens-w.result (l.invariant.1 g) (some_is _ c.is_empty.ensures c.if-is_empty.false) c.opens-w.ensures) c.next-x.ensures c.next-y.ensures

pub loop-left-preserved : goal.loop-left-preserved
loop-left-preserved c = let l = c.loop-left in (c.put.auto.out ∙ l.invariant.0, λ g. again g l.x l.y l.n l.left l.out c.look-p.result c.look-q.result c.join-c.result c.opens-w.result c.next-x.result c.next-y.result _ (let l = c.loop-left in turned g l.x l.y l.n l.left l.out c.look-p.result c.look-q.result c.join-c.result c.look-p.ensures c.look-q.ensures c.join-c.ensures c.loop-left-test.true c.opens-w.result (l.invariant.1 g) (some_is _ c.is_empty.ensures c.if-is_empty.false) c.opens-w.ensures) c.next-x.ensures c.next-y.ensures c.put.ensures)

pub shape_of-out : goal.shape_of-out
shape_of-out c = c.loop-left.invariant.0

pub returns : goal.returns
returns c = λ r. let g = as_cells r in let l = c.loop-left in of_rows r _ _ _ (finish g l.x l.y l.n l.left l.out (omega arith) (l.invariant.1 g))
