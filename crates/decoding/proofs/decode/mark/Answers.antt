use mathlib.Core.Path.{sym, ◌∙◌}
use native.Mathlib.Omega.{arith}
use lib.ListN.{length-set}
use borrow.Author.Tests.{not-true, not-false}
use Rattle.decoding.proofs.Marks.{mark_not, mark_is}
use Rattle.decoding.proofs.decode.mark.Goals as goal

pub returns-then-not-declares_number : goal.returns-then-not-declares_number
returns-then-not-declares_number c = mark_not c.args.t.now c.args.c (sym c.declares_number.ensures ∙ not-true _ c.if-not-declares_number.true-raw)

pub bounds-t-row : goal.bounds-t-row
bounds-t-row c = rw length-set (omega arith)

pub bounds-t-row-2 : goal.bounds-t-row-2
bounds-t-row-2 c = rw (length-set, length-set) (omega arith)

pub bounds-t-row-3 : goal.bounds-t-row-3
bounds-t-row-3 c = rw (length-set, length-set, length-set) (omega arith)

pub returns : goal.returns
returns c = mark_is c.args.t.now c.args.c _ _ (sym c.declares_number.ensures ∙ not-false _ c.if-not-declares_number.false-raw) c.kind_of.ensures c.wide-k.ensures
