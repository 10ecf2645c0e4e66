-- Each check is called only on what the checks before it let through.
use Rattle.std.proofs.Common.{true, refl}
use Rattle.patterns.proofs.Checked.{patterned, readable}
use Rattle.patterns.proofs.show.refusal.Goals as goal

pub ranged-requires : goal.ranged-requires
ranged-requires c = readable c.requires true (c.if-not-well_formed.ensures c.requires) refl

pub linear-requires : goal.linear-requires
linear-requires c = patterned c.requires true (c.if-not-well_formed.ensures c.requires) refl

pub weigh-requires : goal.weigh-requires
weigh-requires c = patterned c.requires true (c.if-not-well_formed.ensures c.requires) refl
