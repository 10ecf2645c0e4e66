use mathlib.Core.Path.{sym}
use native.Mathlib.Omega.{arith}
use Rattle.lines.proofs.LineSteps.{the_line, line_long, key_fits, list_cut, list_bad, list_there}
use Rattle.lines.proofs.line.list_line.Goals as goal

pub returns-then-end-t : goal.returns-then-end-t
returns-then-end-t c = list_cut c.args.key.now c.args.t.now c.end_of-end.result c.end_of-end.ensures _ _ c.if-end-t.true

pub slice_bounds-l-end : goal.slice_bounds-l-end
slice_bounds-l-end c = sym (line_long (the_line c.args.key.now c.args.t.now c.end_of-end.result c.end_of-end.ensures c.if-end-t.false))

pub slice_bounds-list-count : goal.slice_bounds-list-count
slice_bounds-list-count c = key_fits (the_line c.args.key.now c.args.t.now c.end_of-end.result c.end_of-end.ensures c.if-end-t.false)

pub slice_bounds-list-start : goal.slice_bounds-list-start
slice_bounds-list-start c = omega (arith, key_fits (the_line c.args.key.now c.args.t.now c.end_of-end.result c.end_of-end.ensures c.if-end-t.false))

pub returns-in_err-count : goal.returns-in_err-count
returns-in_err-count c = rw c.from_residual.ensures (list_bad (the_line c.args.key.now c.args.t.now c.end_of-end.result c.end_of-end.ensures c.if-end-t.false) c.args.out.now c.list.new.out c.list.result c.list.ensures.0 c.list.ensures.1 c.in_err-count.was)

pub overflow_add-result : goal.overflow_add-result
overflow_add-result c = omega (arith, (the_line c.args.key.now c.args.t.now c.end_of-end.result c.end_of-end.ensures c.if-end-t.false).short, c.well_formed)

pub returns : goal.returns
returns c = list_there (the_line c.args.key.now c.args.t.now c.end_of-end.result c.end_of-end.ensures c.if-end-t.false) c.args.out.now c.list.new.out c.list.result c.list.ensures.0 c.list.ensures.1 c.in_ok-count.count c.in_ok-count.was
