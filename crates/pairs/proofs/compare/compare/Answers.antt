-- The rows of the list are gathered, and the matrix of these is asked for.
use Rattle.std.proofs.Common.{arith, refl}
use Rattle.signature.proofs.KnownFacts.{long}
use Rattle.pairs.proofs.Compared.{none_gathered, counted, gathered}
use Rattle.pairs.proofs.compare.compare.Goals as goal

pub gather-n-requires : goal.gather-n-requires
gather-n-requires g c = (none_gathered c.requires _, refl)

pub gather-requires : goal.gather-requires
gather-requires g c = (none_gathered c.requires _, refl)

pub meet-requires : goal.meet-requires
meet-requires g c = (gathered c.requires _ _ _ c.gather.ensures _ _ (counted c.requires _ _ _ c.gather-n.ensures) (omega arith), long c.requires.known)

pub line-requires : goal.line-requires
line-requires g c = gathered c.requires _ _ _ c.gather-n.ensures _ _ (counted c.requires _ _ _ c.gather-n.ensures) (omega arith)
