use mathlib.Core.Path.{refl, sym, ap, ◌∙◌}
use Rattle.booking.proofs.PartLaws.{Of, decoded_of}
use Rattle.run.proofs.CallLaws.{refused_1, decoded_run}
use Rattle.run.proofs.run.Goals.{Else-not-decode}
use Rattle.run.proofs.run.Goals as goal

decoded : (c : Else-not-decode) → Of c.args.ss.now c.decode.new.t
decoded c = decoded_of _ _ (sym c.if-not-decode.false ∙ c.decode.ensures.answer) c.decode.ensures.table

pub returns-then-not-decode : goal.returns-then-not-decode
returns-then-not-decode c = refused_1 c.args.ss.now c.args.tree.now c.args.b.now (sym c.if-not-decode.true ∙ c.decode.ensures.answer)

pub run_short-requires : goal.run_short-requires
run_short-requires c = ((decoded (goal.at.run_short-requires c).Else-not-decode).known, c.if-b-le-SHORT.true)

pub returns-then-b-le-SHORT : goal.returns-then-b-le-SHORT
returns-then-b-le-SHORT c = decoded_run (decoded (goal.at.returns-then-b-le-SHORT c).Else-not-decode) c.args.tree.now c.args.b.now c.run_short.result c.run_short.ensures

pub run_long-requires : goal.run_long-requires
run_long-requires c = (decoded (goal.at.run_long-requires c).Else-not-decode).known

pub returns : goal.returns
returns c = decoded_run (decoded (goal.at.returns c).Else-not-decode) c.args.tree.now c.args.b.now c.run_long.result c.run_long.ensures
