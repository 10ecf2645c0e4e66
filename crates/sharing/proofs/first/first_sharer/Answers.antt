use mathlib.Core.Path.{refl, ap, ◌∙◌}
use native.Mathlib.Omega.{arith}
use lib.ListN.{length}
use Rattle.sharing.proofs.Sharers.{lowest_given, start, end_le, sound_long, there, past_le, its_first, sum_small, two, shown_there, hit, next, at_end}
use Rattle.sharing.proofs.first.first_sharer.Goals as goal

pub bounds-table-0 : goal.bounds-table-0
bounds-table-0 c = omega (arith, sound_long c.requires.0)

pub lowest_met-low-requires : goal.lowest_met-low-requires
lowest_met-low-requires c = (lowest_given c.requires.0, c.requires.0.force.known.decoded.long, c.requires.1)

pub loop-i-init : goal.loop-i-init
loop-i-init c = (refl, λ g. start g _ (c.lowest_met-low.ensures (lowest_given g)))

pub overflow_add-begin : goal.overflow_add-begin
overflow_add-begin c = omega (arith, there c.requires.0 (c.loop-i.invariant.1 c.requires.0) c.loop-i-test.true)

pub offset_bounds-rows-begin : goal.offset_bounds-rows-begin
offset_bounds-rows-begin c = omega (arith, there c.requires.0 (c.loop-i.invariant.1 c.requires.0) c.loop-i-test.true)

pub slice_bounds-count-count : goal.slice_bounds-count-count
slice_bounds-count-count c = omega (arith, there c.requires.0 (c.loop-i.invariant.1 c.requires.0) c.loop-i-test.true)

pub slice_bounds-count-start : goal.slice_bounds-count-start
slice_bounds-count-start c = omega (arith, there c.requires.0 (c.loop-i.invariant.1 c.requires.0) c.loop-i-test.true)

pub slice_bounds-count-end : goal.slice_bounds-count-end
slice_bounds-count-end c = omega (arith, there c.requires.0 (c.loop-i.invariant.1 c.requires.0) c.loop-i-test.true)

pub count-past-requires : goal.count-past-requires
count-past-requires c = its_first c.requires.0 (c.loop-i.invariant.1 c.requires.0) c.loop-i-test.true

pub overflow_add-past : goal.overflow_add-past
overflow_add-past c = omega (arith, sum_small c.requires.0 (c.loop-i.invariant.1 c.requires.0) c.loop-i-test.true c.count-past.result c.count-past.ensures)

pub offset_bounds-rows-at : goal.offset_bounds-rows-at
offset_bounds-rows-at c = omega (arith, c.requires.0.within)

pub slice_bounds-witness-count : goal.slice_bounds-witness-count
slice_bounds-witness-count c = omega (arith, c.requires.0.within)

pub slice_bounds-witness-start : goal.slice_bounds-witness-start
slice_bounds-witness-start c = omega (arith, c.requires.0.within)

pub slice_bounds-witness-end : goal.slice_bounds-witness-end
slice_bounds-witness-end c = omega (arith, c.requires.0.within)

pub offset_bounds-rows-begin-then-low-past : goal.offset_bounds-rows-begin-then-low-past
offset_bounds-rows-begin-then-low-past c = omega (arith, there c.requires.0 (c.loop-i.invariant.1 c.requires.0) c.loop-i-test.true)

pub slice_bounds-witness-count-then-low-past : goal.slice_bounds-witness-count-then-low-past
slice_bounds-witness-count-then-low-past c = omega (arith, there c.requires.0 (c.loop-i.invariant.1 c.requires.0) c.loop-i-test.true)

pub slice_bounds-witness-start-then-low-past : goal.slice_bounds-witness-start-then-low-past
slice_bounds-witness-start-then-low-past c = omega (arith, there c.requires.0 (c.loop-i.invariant.1 c.requires.0) c.loop-i-test.true)

pub slice_bounds-witness-end-then-low-past : goal.slice_bounds-witness-end-then-low-past
slice_bounds-witness-end-then-low-past c = omega (arith, there c.requires.0 (c.loop-i.invariant.1 c.requires.0) c.loop-i-test.true)

pub witness-requires : goal.witness-requires
witness-requires c = (two c.requires.0 (c.loop-i.invariant.1 c.requires.0) c.loop-i-test.true, omega (arith, ap length c.loop-i.invariant.0, c.requires.0.room))

pub offset_bounds-table-place : goal.offset_bounds-table-place
offset_bounds-table-place c = omega (arith, end_le c.requires.0 (c.loop-i.invariant.1 c.requires.0) c.loop-i-test.true)

pub bounds-table-place : goal.bounds-table-place
bounds-table-place c = omega (arith, end_le c.requires.0 (c.loop-i.invariant.1 c.requires.0) c.loop-i-test.true, sound_long c.requires.0)

pub shape_of-m-then-low-past : goal.shape_of-m-then-low-past
shape_of-m-then-low-past c = c.lowest_met-low.auto.m

pub shape_of-out-then-low-past : goal.shape_of-out-then-low-past
shape_of-out-then-low-past c = c.witness.auto.out ∙ ap length c.loop-i.invariant.0

pub unwrap-length-requires : goal.unwrap-length-requires
unwrap-length-requires c = let g = c.requires.0 in let w = c.witness in let n = c.count-past in shown_there g (c.loop-i.invariant.1 g) c.loop-i-test.true w.result c.args.out.now c.loop-i.out w.new.out c.loop-i.invariant.0 w.ensures n.result n.ensures c.if-low-past.true

pub returns-then-low-past : goal.returns-then-low-past
returns-then-low-past c = λ g. let w = c.witness in hit g (c.loop-i.invariant.1 g) c.loop-i-test.true w.result c.args.out.now c.loop-i.out w.new.out c.loop-i.invariant.0 w.ensures _ c.unwrap-length.ensures

pub offset_bounds-rows-from : goal.offset_bounds-rows-from
offset_bounds-rows-from c = omega (arith, there c.requires.0 (c.loop-i.invariant.1 c.requires.0) c.loop-i-test.true)

pub bounds-rows-from : goal.bounds-rows-from
bounds-rows-from c = omega (arith, there c.requires.0 (c.loop-i.invariant.1 c.requires.0) c.loop-i-test.true)

pub overflow_add-from : goal.overflow_add-from
overflow_add-from c = omega (arith, past_le c.requires.0 (c.loop-i.invariant.1 c.requires.0) c.loop-i-test.true)

pub overflow_add-place : goal.overflow_add-place
overflow_add-place c = omega (arith, end_le c.requires.0 (c.loop-i.invariant.1 c.requires.0) c.loop-i-test.true, sound_long c.requires.0)

pub overflow_add-place-in-loop-i : goal.overflow_add-place-in-loop-i
overflow_add-place-in-loop-i c = omega (arith, end_le c.requires.0 (c.loop-i.invariant.1 c.requires.0) c.loop-i-test.true, sound_long c.requires.0)

pub offset_bounds-table-place-in-loop-i : goal.offset_bounds-table-place-in-loop-i
offset_bounds-table-place-in-loop-i c = omega (arith, end_le c.requires.0 (c.loop-i.invariant.1 c.requires.0) c.loop-i-test.true)

pub bounds-table-place-in-loop-i : goal.bounds-table-place-in-loop-i
bounds-table-place-in-loop-i c = omega (arith, end_le c.requires.0 (c.loop-i.invariant.1 c.requires.0) c.loop-i-test.true, sound_long c.requires.0)

pub overflow_cast-place : goal.overflow_cast-place
overflow_cast-place c = omega (arith, end_le c.requires.0 (c.loop-i.invariant.1 c.requires.0) c.loop-i-test.true)

pub overflow_add-place-in-loop-i-2 : goal.overflow_add-place-in-loop-i-2
overflow_add-place-in-loop-i-2 c = omega (arith, end_le c.requires.0 (c.loop-i.invariant.1 c.requires.0) c.loop-i-test.true, sound_long c.requires.0)

pub loop-i-preserved : goal.loop-i-preserved
loop-i-preserved c = let n = c.count-past in (c.loop-i.invariant.0, λ g. next g (c.loop-i.invariant.1 g) c.loop-i-test.true n.result n.ensures (omega (arith, c.if-low-past.false)))

pub shape_of-m : goal.shape_of-m
shape_of-m c = c.lowest_met-low.auto.m

pub shape_of-out : goal.shape_of-out
shape_of-out c = ap length c.loop-i.invariant.0

pub returns : goal.returns
returns c = λ g. at_end g (c.loop-i.invariant.1 g) _ _ c.loop-i.invariant.0 c.loop-i-test.false
