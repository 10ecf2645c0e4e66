-- The matcher is asked only of a pattern and a lawful booking.
use Rattle.std.proofs.Common.{true, refl}
use Rattle.patterns.proofs.Checked.{asked}
use Rattle.patterns.proofs.show.answer.Goals as goal

pub takes-requires : goal.takes-requires
takes-requires g c = asked c.requires true true (c.if-not-well_formed.ensures c.requires) refl (c.if-not-lawful.ensures c.requires) refl

pub places-out-requires-clause-asked : goal.places-out-requires-clause-asked
places-out-requires-clause-asked g c = asked c.requires true true (c.if-not-well_formed.ensures c.requires) refl (c.if-not-lawful.ensures c.requires) refl
