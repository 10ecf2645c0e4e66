use mathlib.Core.Path.{sym}
use lib.Seq.{length-take-le}
use Rattle.lines.proofs.LineSteps.{within, cut, keyed, other}
use Rattle.lines.proofs.line.end_of.Goals as goal

pub returns-then-e-t : goal.returns-then-e-t
returns-then-e-t c = cut c.args.key.now c.args.t.now c.span-e.result c.span-e.ensures c.if-e-t.true

pub slice_bounds-starts-end : goal.slice_bounds-starts-end
slice_bounds-starts-end c = sym (length-take-le c.span-e.result c.args.t.now (within c.args.key.now c.args.t.now c.span-e.result c.span-e.ensures))

pub returns-then-starts : goal.returns-then-starts
returns-then-starts c = keyed c.args.key.now c.args.t.now c.span-e.result c.span-e.ensures c.if-e-t.false c.starts.result c.starts.ensures c.if-starts.true

pub returns : goal.returns
returns c = other c.args.key.now c.args.t.now c.span-e.result c.span-e.ensures c.if-e-t.false c.starts.result c.starts.ensures c.if-starts.false
