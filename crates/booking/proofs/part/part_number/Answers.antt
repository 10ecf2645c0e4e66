use mathlib.Core.Path.{◌∙◌}
use Rattle.booking.proofs.PartLaws.{found_number}
use Rattle.booking.proofs.part.part_number.Goals as goal

pub returns : goal.returns
returns c = let a = c.args in c.number.ensures ∙ found_number a.ss.now a.b.now a.place _ c.find.ensures
