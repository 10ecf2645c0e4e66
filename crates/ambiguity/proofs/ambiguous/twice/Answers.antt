use mathlib.Core.Path.{sym, ◌∙◌}
use native.Mathlib.Omega.{arith}
use Rattle.signature.proofs.Booleans.{not_false}
use Rattle.pattern.specs.Word.{form_of}
use Rattle.ambiguity.proofs.Twice.{some_word, double_own, two_given, taken}
use Rattle.ambiguity.proofs.ambiguous.twice.Goals as goal

pub bounds-p-0 : goal.bounds-p-0
bounds-p-0 c = omega (arith, some_word c.requires)

pub both-requires : goal.both-requires
both-requires c = rw (c.own_words-own.ensures ∙ double_own c.args.plus (form_of c.classify-w.result) (sym c.is_double.ensures ∙ not_false _ c.if-not-is_double.false-raw)) (two_given c.requires c.args.vars (form_of c.classify-w.result) c.classify-w.ensures _ c.is_double.ensures (not_false _ c.if-not-is_double.false-raw))

pub returns : goal.returns
returns c = λ g. taken g c.args.vars (form_of c.classify-w.result) c.classify-w.ensures _ c.is_double.ensures (not_false _ c.if-not-is_double.false-raw) _ (not_false _ c.if-not-vars.false-raw) (rw (c.own_words-own.ensures ∙ double_own c.args.plus (form_of c.classify-w.result) (sym c.is_double.ensures ∙ not_false _ c.if-not-is_double.false-raw)) at c.both.ensures)
