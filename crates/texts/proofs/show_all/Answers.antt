-- A name ends within what is left.
use Rattle.std.proofs.Common.{arith, sym, length-take-le}
use Rattle.numbers.proofs.Spans.{before_most}
use Rattle.texts.proofs.show_all.Goals as goal

pub slice_bounds-show-end : goal.slice_bounds-show-end
slice_bounds-show-end g c = sym (length-take-le _ c.loop-rest.rest.now (omega (arith, before_most 10 c.loop-rest.rest.now, c.span-e.ensures)))

pub overflow_add-from : goal.overflow_add-from
overflow_add-from g c = omega (arith, before_most 10 c.loop-rest.rest.now, c.span-e.ensures)

pub slice_bounds-rest-count : goal.slice_bounds-rest-count
slice_bounds-rest-count g c = omega (arith, before_most 10 c.loop-rest.rest.now, c.span-e.ensures)

pub slice_bounds-rest-start : goal.slice_bounds-rest-start
slice_bounds-rest-start g c = omega (arith, before_most 10 c.loop-rest.rest.now, c.span-e.ensures)
