use mathlib.Core.Path.{◌≡◌}
use lib.ListN.{length}
use Rattle.signature.specs.Decoded.{Known}
use Rattle.charges.specs.Limits.{booking_room, record_length}
use Rattle.replanning.specs.Parts.{Charged, answers_room}
use Rattle.replanning.proofs.Found.{Going}
use Rattle.replanning.proofs.records.answer_all.Given as goal

abbrev pub invariant-loop-k : goal.invariant-loop-k
invariant-loop-k l = (goal.iterator-loop-k).can_next l.k-iterator × (goal.iterator-loop-k).is_finite l.k-iterator × (l.k-iterator.iter.size ≡ record_length) × (length l.answers ≡ answers_room) × ((g : Known l.t) (k : Charged l.charges) → Going g.sig l.tree k.charges l.k-iterator.iter.rest.now l.k-iterator.count l.answers) × (length l.visits ≡ booking_room)
