use mathlib.Core.Path.{refl, sym, ap, ◌∙◌}
use Rattle.text.specs.Print.{print_refused}
use Rattle.signature.proofs.Numbers.{not_0}
use Rattle.tallying.proofs.Tallying.{as_printed, refused, reported, many, room}
use Rattle.tallying.proofs.tally_in.Goals as goal

pub returns-in-Err : goal.returns-in-Err
returns-in-Err c = as_printed (refused c.args.text.now c.scan.result c.scan.ensures.0 c.in-Some.n c.in-Some.is c.args.words.now c.scan.new.out c.scan.ensures.1 c.in-Err.ensures (not_0 _) ∙ ap print_refused (sym c.from-in-Err.ensures)) c.refused-in-Err.ensures

pub report-requires : goal.report-requires
report-requires c = (many c.args.text.now c.scan.result c.scan.ensures.0 c.in-Some.n c.in-Some.is c.args.words.now c.scan.new.out c.scan.ensures.1 c.in-Ok.ensures refl, room c.args.text.now c.scan.result c.scan.ensures.0 c.in-Some.n c.in-Some.is c.args.words.now c.scan.new.out c.scan.ensures.1 c.in-Ok.ensures refl c.args.out.now c.requires.1)

pub returns-in-Ok : goal.returns-in-Ok
returns-in-Ok c = as_printed (reported c.args.text.now c.scan.result c.scan.ensures.0 c.in-Some.n c.in-Some.is c.args.words.now c.scan.new.out c.scan.ensures.1 c.in-Ok.ensures refl) c.report.ensures
