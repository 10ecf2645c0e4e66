use mathlib.Core.Path.{sym, ◌∙◌}
use Rattle.booking.proofs.PartLaws.{decoded_of}
use Rattle.opening.proofs.Opens.{refuses_1, refuses_2, begins}
use Rattle.opening.proofs.begin.begin.Goals as goal

pub returns-then-not-decode : goal.returns-then-not-decode
returns-then-not-decode c = refuses_1 c.args.ss.now c.args.long _ (sym c.if-not-decode.true ∙ c.decode.ensures.answer)

pub returns-then-not-long : goal.returns-then-not-long
returns-then-not-long c = refuses_2 (decoded_of c.args.ss.now c.decode.new.t (sym c.if-not-decode.false ∙ c.decode.ensures.answer) c.decode.ensures.table) c.args.long c.if-not-long.true

pub returns : goal.returns
returns c = begins (decoded_of c.args.ss.now c.decode.new.t (sym c.if-not-decode.false ∙ c.decode.ensures.answer) c.decode.ensures.table) c.args.long c.if-not-long.false
