use mathlib.Core.Path.{◌∙◌}
use native.Mathlib.Omega.{arith}
use Rattle.signature.proofs.KnownFacts.{long, few_kinds}
use Rattle.booking.proofs.Views.{stands}
use Rattle.booking.proofs.walk.may_stand.Goals as goal

pub first_of-requires : goal.first_of-requires
first_of-requires c = let g = c.requires.0 in (long g, omega (arith, few_kinds g, g.decoded.kind_count, c.requires.1))

pub count_of-requires : goal.count_of-requires
count_of-requires c = let g = c.requires.0 in (long g, omega (arith, few_kinds g, g.decoded.kind_count, c.requires.1))

pub returns : goal.returns
returns c = λ g. c.is_head.ensures ∙ stands g c.args.k c.args.w _ _ c.requires.1 c.first_of.ensures c.count_of.ensures
