use mathlib.Core.Path.{refl, sym, ◌∙◌}
use native.Mathlib.Omega.{arith}
use lib.Seq.{length-take-le}
use Rattle.signature.proofs.Booleans.{not_true, not_false}
use Rattle.answering.proofs.Program.{broken}
use Rattle.answering.proofs.Steps.{as_printed, sig_not_broken, sig_fits, sig_refused, sig_ready}
use Rattle.answering.proofs.answer.answer_in.Goals as goal

pub returns-then-not-keeps_format : goal.returns-then-not-keeps_format
returns-then-not-keeps_format c = as_printed c.args.text.now (broken c.args.text.now (sym (not_true _ c.if-not-keeps_format.true-raw) ∙ c.keeps_format.ensures)) refl c.refused.ensures

pub returns-in_default : goal.returns-in_default
returns-in_default c = as_printed c.args.text.now (absurd (sig_not_broken c.args.text.now (sym (not_false _ c.if-not-keeps_format.false-raw) ∙ c.keeps_format.ensures) c.list_line.result c.list_line.ensures.0 c.in_default.is)) refl c.refused-in_default.ensures

pub slice_bounds-ss-end : goal.slice_bounds-ss-end
slice_bounds-ss-end c = omega (arith, sig_fits c.args.text.now (sym (not_false _ c.if-not-keeps_format.false-raw) ∙ c.keeps_format.ensures) c.list_line.result c.list_line.ensures.0 c.in-Some.sig c.in-Some.is, c.list_line.auto.out, c.requires.0)

pub slice_bounds-ss-end-2 : goal.slice_bounds-ss-end-2
slice_bounds-ss-end-2 c = sym (length-take-le _ _ (omega (arith, sig_fits c.args.text.now (sym (not_false _ c.if-not-keeps_format.false-raw) ∙ c.keeps_format.ensures) c.list_line.result c.list_line.ensures.0 c.in-Some.sig c.in-Some.is, c.list_line.auto.out, c.requires.0)))

pub returns-then-not-decode : goal.returns-then-not-decode
returns-then-not-decode c = as_printed c.args.text.now (sig_refused c.args.text.now (sym (not_false _ c.if-not-keeps_format.false-raw) ∙ c.keeps_format.ensures) c.list_line.result c.list_line.ensures.0 c.in-Some.sig c.in-Some.is c.args.words.now c.list_line.new.out c.list_line.ensures.1 (sym (not_true _ c.if-not-decode.true-raw) ∙ c.decode.ensures.answer)) refl c.refused-then-not-decode.ensures

pub enter_rules-requires : goal.enter_rules-requires
enter_rules-requires c = (sig_ready c.args.text.now (sym (not_false _ c.if-not-keeps_format.false-raw) ∙ c.keeps_format.ensures) c.list_line.result c.list_line.ensures.0 c.in-Some.sig c.in-Some.is c.args.words.now c.list_line.new.out c.list_line.ensures.1 (sym (not_false _ c.if-not-decode.false-raw) ∙ c.decode.ensures.answer) c.args.table.now c.empty.new.table _ c.requires.2 c.empty.ensures, c.requires.3, c.requires.4, c.requires.5)
