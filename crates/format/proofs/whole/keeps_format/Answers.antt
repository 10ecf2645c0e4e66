use native.Mathlib.Omega.{arith}
use Rattle.format.proofs.FormatSteps.{sig_broken, sig_fits, sig_there}
use Rattle.format.proofs.whole.keeps_format.Goals as goal

pub slice_bounds-rest_keeps-count : goal.slice_bounds-rest_keeps-count
slice_bounds-rest_keeps-count c = omega (arith, sig_fits c.args.text.now c.if-text-gt-TEXT_LIMIT.false c.list_line.result c.list_line.ensures.0 c.in-Some.sig c.in-Some.is)

pub returns : goal.returns
returns c = sig_there c.args.text.now c.if-text-gt-TEXT_LIMIT.false c.list_line.result c.list_line.ensures.0 c.in-Some.sig c.in-Some.is c.rest_keeps.result c.rest_keeps.ensures

pub returns-in_default : goal.returns-in_default
returns-in_default c = sig_broken c.args.text.now c.if-text-gt-TEXT_LIMIT.false c.list_line.result c.list_line.ensures.0 c.in_default.is

pub slice_bounds-rest_keeps-start : goal.slice_bounds-rest_keeps-start
slice_bounds-rest_keeps-start c = (sig_fits c.args.text.now c.if-text-gt-TEXT_LIMIT.false c.list_line.result c.list_line.ensures.0 c.in-Some.sig c.in-Some.is).1
