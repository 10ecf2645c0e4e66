use mathlib.Core.Path.{refl}
use Prim.Native.Nat.{◌+◌, ◌*◌}
use native.Mathlib.Omega.{arith}
use lib.ListN.{length-set}
use Rattle.signature.proofs.KnownFacts.{long}
use Rattle.path.specs.State.{row_stride}
use Rattle.path.proofs.IndexLaws.{own_start, own_cells, own_end, own_on, row_within, counting_start, counted_on, counting_end, before_set}
use Rattle.indexing.proofs.one.count_columns.Goals as goal

pub loop-left-init : goal.loop-left-init
loop-left-init c = ((λ g. own_start g), counting_start _ _ _ _ _, (λ i l. refl), refl)

pub overflow_cast-rows : goal.overflow_cast-rows
overflow_cast-rows c = omega (arith, own_cells c.requires.0.known.sig c.args.t.now c.args.a.now _ _ _ (c.loop-left.invariant.0 c.requires.0), c.requires.0.short)

pub overflow_mul-rows : goal.overflow_mul-rows
overflow_mul-rows c = omega (arith, own_cells c.requires.0.known.sig c.args.t.now c.args.a.now _ _ _ (c.loop-left.invariant.0 c.requires.0), c.requires.0.short, c.requires.1)

pub overflow_add-rows : goal.overflow_add-rows
overflow_add-rows c = omega (arith, own_cells c.requires.0.known.sig c.args.t.now c.args.a.now _ _ _ (c.loop-left.invariant.0 c.requires.0), c.requires.0.short, c.requires.1)

pub overflow_add-rows-in-loop-left : goal.overflow_add-rows-in-loop-left
overflow_add-rows-in-loop-left c = omega (arith, own_cells c.requires.0.known.sig c.args.t.now c.args.a.now _ _ _ (c.loop-left.invariant.0 c.requires.0), c.requires.0.short, c.requires.1)

pub offset_bounds-rows-r : goal.offset_bounds-rows-r
offset_bounds-rows-r c = omega (arith, own_cells c.requires.0.known.sig c.args.t.now c.args.a.now _ _ _ (c.loop-left.invariant.0 c.requires.0), c.requires.0.short, c.requires.1)

pub bounds-rows-r : goal.bounds-rows-r
bounds-rows-r c = omega (arith, own_cells c.requires.0.known.sig c.args.t.now c.args.a.now _ _ _ (c.loop-left.invariant.0 c.requires.0), c.requires.0.short, c.requires.1, c.loop-left.invariant.3)

pub overflow_mul-i : goal.overflow_mul-i
overflow_mul-i c = omega (arith, own_cells c.requires.0.known.sig c.args.t.now c.args.a.now _ _ _ (c.loop-left.invariant.0 c.requires.0), c.requires.0.short)

pub overflow_add-start : goal.overflow_add-start
overflow_add-start c = omega (arith, own_cells c.requires.0.known.sig c.args.t.now c.args.a.now _ _ _ (c.loop-left.invariant.0 c.requires.0), c.requires.0.short, row_within c.requires.0)

pub opens_at-requires : goal.opens_at-requires
opens_at-requires c = (omega (arith, own_cells c.requires.0.known.sig c.args.t.now c.args.a.now _ _ _ (c.loop-left.invariant.0 c.requires.0), c.requires.0.short, row_within c.requires.0), long c.requires.0.known)

pub overflow_add-left : goal.overflow_add-left
overflow_add-left c = omega (arith, own_cells c.requires.0.known.sig c.args.t.now c.args.a.now _ _ _ (c.loop-left.invariant.0 c.requires.0), c.requires.0.short, own_cells c.requires.0.known.sig c.args.t.now c.args.a.now _ _ _ (own_on c.requires.0 c.loop-left.i _ _ (c.loop-left.invariant.0 c.requires.0) c.loop-left-test.true c.opens_at.ensures))

pub overflow_add-i : goal.overflow_add-i
overflow_add-i c = omega (arith, own_cells c.requires.0.known.sig c.args.t.now c.args.a.now _ _ _ (c.loop-left.invariant.0 c.requires.0), c.requires.0.short)

pub loop-left-smaller : goal.loop-left-smaller
loop-left-smaller c = omega (arith, own_cells c.requires.0.known.sig c.args.t.now c.args.a.now _ _ _ (c.loop-left.invariant.0 c.requires.0))

pub loop-left-preserved : goal.loop-left-preserved
loop-left-preserved c = ((λ g. own_on g c.loop-left.i _ _ (c.loop-left.invariant.0 g) c.loop-left-test.true c.opens_at.ensures), counted_on _ _ _ _ _ _ _ _ c.loop-left.invariant.1 (omega (arith, own_cells c.requires.0.known.sig c.args.t.now c.args.a.now _ _ _ (c.loop-left.invariant.0 c.requires.0), c.requires.0.short, c.requires.1, c.loop-left.invariant.3)) c.opens_at.ensures, before_set (row_stride * c.args.r + 4) (row_stride * c.args.r + 4 + c.loop-left.i) c.loop-left.left c.args.rows.now c.loop-left.rows c.loop-left.invariant.2 (omega arith), simp length-set c.loop-left.invariant.3)

pub overflow_mul-rows-2 : goal.overflow_mul-rows-2
overflow_mul-rows-2 c = omega (arith, own_cells c.requires.0.known.sig c.args.t.now c.args.a.now _ _ _ (c.loop-left.invariant.0 c.requires.0), c.requires.0.short, c.requires.1)

pub overflow_add-rows-2 : goal.overflow_add-rows-2
overflow_add-rows-2 c = omega (arith, own_cells c.requires.0.known.sig c.args.t.now c.args.a.now _ _ _ (c.loop-left.invariant.0 c.requires.0), c.requires.0.short, c.requires.1)

pub overflow_add-rows-3 : goal.overflow_add-rows-3
overflow_add-rows-3 c = omega (arith, own_cells c.requires.0.known.sig c.args.t.now c.args.a.now _ _ _ (c.loop-left.invariant.0 c.requires.0), c.requires.0.short, c.requires.1)

pub offset_bounds-rows-r-2 : goal.offset_bounds-rows-r-2
offset_bounds-rows-r-2 c = omega (arith, own_cells c.requires.0.known.sig c.args.t.now c.args.a.now _ _ _ (c.loop-left.invariant.0 c.requires.0), c.requires.0.short, c.requires.1)

pub bounds-rows-r-2 : goal.bounds-rows-r-2
bounds-rows-r-2 c = omega (arith, own_cells c.requires.0.known.sig c.args.t.now c.args.a.now _ _ _ (c.loop-left.invariant.0 c.requires.0), c.requires.0.short, c.requires.1, c.loop-left.invariant.3)

pub shape_of-rows : goal.shape_of-rows
shape_of-rows c = simp length-set c.loop-left.invariant.3

pub returns : goal.returns
returns c = (counting_end _ _ _ _ _ _ _ c.loop-left.invariant.1 (omega (arith, own_cells c.requires.0.known.sig c.args.t.now c.args.a.now _ _ _ (c.loop-left.invariant.0 c.requires.0), c.requires.0.short, c.requires.1, c.loop-left.invariant.3)) _ _ (omega (arith, own_end c.requires.0.known.sig c.args.t.now c.args.a.now _ _ _ (c.loop-left.invariant.0 c.requires.0) (omega (arith, c.loop-left-test.false)))) (omega (arith, c.loop-left-test.false)), before_set (row_stride * c.args.r + 4) (row_stride * c.args.r + 4 + c.loop-left.i) 0 c.args.rows.now c.loop-left.rows c.loop-left.invariant.2 (omega arith))
