-- A lawful signature's table is known.
use Rattle.booking.proofs.PartLaws.{decoded_of}
use Rattle.parts.proofs.show.checked.Goals as goal

pub lawful-requires : goal.lawful-requires
lawful-requires g c = (decoded_of c.args.ss.now _ c.if-not-decode.ensures.answer c.if-not-decode.ensures.table).known
