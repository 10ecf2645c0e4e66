use mathlib.Core.Path.{sym}
use native.Mathlib.Omega.{arith}
use Rattle.lines.proofs.LineSteps.{the_line, line_long, key_fits, word_cut, word_bad, word_is}
use Rattle.lines.proofs.line.number_line.Goals as goal

pub returns-then-e-t : goal.returns-then-e-t
returns-then-e-t c = word_cut c.args.key.now c.args.t.now c.end_of-e.result c.end_of-e.ensures c.if-e-t.true

pub slice_bounds-l-end : goal.slice_bounds-l-end
slice_bounds-l-end c = sym (line_long (the_line c.args.key.now c.args.t.now c.end_of-e.result c.end_of-e.ensures c.if-e-t.false))

pub slice_bounds-number-count : goal.slice_bounds-number-count
slice_bounds-number-count c = key_fits (the_line c.args.key.now c.args.t.now c.end_of-e.result c.end_of-e.ensures c.if-e-t.false)

pub slice_bounds-number-start : goal.slice_bounds-number-start
slice_bounds-number-start c = omega (arith, key_fits (the_line c.args.key.now c.args.t.now c.end_of-e.result c.end_of-e.ensures c.if-e-t.false))

pub returns-in_err-word : goal.returns-in_err-word
returns-in_err-word c = rw c.from_residual.ensures (word_bad (the_line c.args.key.now c.args.t.now c.end_of-e.result c.end_of-e.ensures c.if-e-t.false) c.number.result c.number.ensures c.in_err-word.was)

pub overflow_add-result : goal.overflow_add-result
overflow_add-result c = omega (arith, (the_line c.args.key.now c.args.t.now c.end_of-e.result c.end_of-e.ensures c.if-e-t.false).short, c.well_formed)

pub returns : goal.returns
returns c = word_is (the_line c.args.key.now c.args.t.now c.end_of-e.result c.end_of-e.ensures c.if-e-t.false) c.number.result c.number.ensures c.in_ok-word.word c.in_ok-word.was
