-- A lawful signature's table is known.
use Rattle.booking.proofs.PartLaws.{decoded_of}
use Rattle.patterns.proofs.run.Goals as goal

pub lines-requires : goal.lines-requires
lines-requires g c = (decoded_of c.args.signature.now _ c.if-not-decode.ensures.answer c.if-not-decode.ensures.table).known
