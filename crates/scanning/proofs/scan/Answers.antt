use native.Mathlib.Omega.{arith}
use Rattle.day_log.specs.Format.{key_log}
use Rattle.lines.proofs.LineSteps.{Line, end_within, key_fits}
use Rattle.scanning.proofs.ScanSteps.{too_long, not_alone, line_of, empty_log, the_log}
use Rattle.scanning.proofs.scan.Goals.{Else-end-text}
use Rattle.scanning.proofs.scan.Goals as goal

-- the one line
line : (c : Else-end-text) → Line key_log c.args.text.now c.end_of-end.result
line c = line_of c.args.text.now c.if-text-gt-TEXT_LIMIT.false c.end_of-end.result c.end_of-end.ensures c.if-end-text.false

pub returns-then-text-gt-TEXT_LIMIT : goal.returns-then-text-gt-TEXT_LIMIT
returns-then-text-gt-TEXT_LIMIT c = too_long c.args.text.now _ _ c.if-text-gt-TEXT_LIMIT.true

pub overflow_add-end : goal.overflow_add-end
overflow_add-end c = omega (arith, end_within key_log c.args.text.now c.end_of-end.result c.end_of-end.ensures, c.if-text-gt-TEXT_LIMIT.false)

pub returns-then-end-text : goal.returns-then-end-text
returns-then-end-text c = not_alone c.args.text.now c.if-text-gt-TEXT_LIMIT.false c.end_of-end.result c.end_of-end.ensures _ _ c.if-end-text.true

pub slice_bounds-rest-count : goal.slice_bounds-rest-count
slice_bounds-rest-count c = key_fits (line c)

pub slice_bounds-rest-start : goal.slice_bounds-rest-start
slice_bounds-rest-start c = omega (arith, key_fits (line c))

pub returns-then-rest-eq0 : goal.returns-then-rest-eq0
returns-then-rest-eq0 c = empty_log c.args.text.now c.if-text-gt-TEXT_LIMIT.false c.end_of-end.result c.end_of-end.ensures c.if-end-text.false c.args.out.now c.if-rest-eq0.true

pub returns : goal.returns
returns c = the_log c.args.text.now c.if-text-gt-TEXT_LIMIT.false c.end_of-end.result c.end_of-end.ensures c.if-end-text.false c.if-rest-eq0.false c.list.result c.args.out.now c.list.new.out c.list.ensures
