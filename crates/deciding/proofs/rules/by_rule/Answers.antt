use Rattle.deciding.proofs.Judged.{by_fit}
use Rattle.deciding.proofs.rules.by_rule.Goals as goal

pub places-requires : goal.places-requires
places-requires c = record { asked = c.requires.asked; value_value = c.requires.fits }

pub returns : goal.returns
returns c = λ g. by_fit g c.places.result c.places.ensures
