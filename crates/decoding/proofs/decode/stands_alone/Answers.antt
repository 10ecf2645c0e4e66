use mathlib.Core.Path.{sym, ◌∙◌}
use borrow.Author.Tests.{not-true, not-false}
use Rattle.decoding.proofs.Marks.{alone_not, alone_count}
use Rattle.decoding.proofs.decode.stands_alone.Goals as goal

pub returns-then-not-declares_number : goal.returns-then-not-declares_number
returns-then-not-declares_number c = alone_not c.args.t.now c.args.c (sym c.declares_number.ensures ∙ not-true _ c.if-not-declares_number.true-raw)

pub returns : goal.returns
returns c = alone_count c.args.t.now c.args.c _ _ _ (sym c.declares_number.ensures ∙ not-false _ c.if-not-declares_number.false-raw) c.kind_of.ensures c.wide.ensures c.count_of.ensures
