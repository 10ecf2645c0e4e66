-- Each row begins within the list.
use Rattle.std.proofs.Common.{arith}
use Rattle.pairs.proofs.Compared.{begins_le, two}
use Rattle.pairs.proofs.compare.by_pair.Goals as goal

pub offset_bounds-a-x : goal.offset_bounds-a-x
offset_bounds-a-x c = omega (arith, begins_le c.requires.0 c.args.i c.requires.1)

pub slice_bounds-rows_meet-count : goal.slice_bounds-rows_meet-count
slice_bounds-rows_meet-count c = begins_le c.requires.0 c.args.i c.requires.1

pub slice_bounds-rows_meet-start : goal.slice_bounds-rows_meet-start
slice_bounds-rows_meet-start c = omega (arith, begins_le c.requires.0 c.args.i c.requires.1)

pub offset_bounds-a-y : goal.offset_bounds-a-y
offset_bounds-a-y c = omega (arith, begins_le c.requires.0 c.args.j c.if-n-j.false)

pub slice_bounds-rows_meet-count-2 : goal.slice_bounds-rows_meet-count-2
slice_bounds-rows_meet-count-2 c = begins_le c.requires.0 c.args.j c.if-n-j.false

pub slice_bounds-rows_meet-start-2 : goal.slice_bounds-rows_meet-start-2
slice_bounds-rows_meet-start-2 c = omega (arith, begins_le c.requires.0 c.args.j c.if-n-j.false)

pub rows_meet-requires : goal.rows_meet-requires
rows_meet-requires c = two c.requires.0 c.args.i c.args.j c.requires.1 c.if-n-j.false
