use mathlib.Core.Path.{refl, ap, ◌∙◌}
use Rattle.pattern.specs.Places.{bind_all, unbound}
use Rattle.matching.specs.Bound.{bound}
use Rattle.matching.proofs.GivenSteps.{given_whole, booking_short}
use Rattle.matching.proofs.places.places.Goals as goal

pub bind-requires : goal.bind-requires
bind-requires c = (given_whole c.requires.asked, booking_short c.requires.asked, refl)

pub returns : goal.returns
returns c = λ g σ e. c.bind.ensures (given_whole g) ∙ ap (λ o. bind_all (bound o) unbound) e
