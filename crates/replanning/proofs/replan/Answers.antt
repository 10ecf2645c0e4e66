use Rattle.booking.proofs.PartLaws.{decoded_of}
use Rattle.replanning.proofs.Calling.{refused_1, decoded_replan}
use Rattle.replanning.proofs.replan.Goals as goal

pub returns-then-not-decode : goal.returns-then-not-decode
returns-then-not-decode c = refused_1 c.args.ss.now c.args.tree.now c.args.charges.now c.if-not-decode.ensures.answer

pub replan_decoded-requires : goal.replan_decoded-requires
replan_decoded-requires c = (decoded_of c.args.ss.now _ c.if-not-decode.ensures.answer c.if-not-decode.ensures.table).known

pub returns : goal.returns
returns c = decoded_replan (decoded_of c.args.ss.now _ c.if-not-decode.ensures.answer c.if-not-decode.ensures.table) _ _ _ c.replan_decoded.result c.replan_decoded.ensures
