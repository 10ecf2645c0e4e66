-- A lawful signature's table is known.
use Rattle.std.proofs.Common.{arith}
use Rattle.booking.proofs.PartLaws.{decoded_of}
use Rattle.pairs.proofs.show.Goals as goal

pub hold_all-requires : goal.hold_all-requires
hold_all-requires g c = ((decoded_of c.args.ss.now _ c.if-not-decode.ensures.answer c.if-not-decode.ensures.table).known, omega arith, omega arith)
