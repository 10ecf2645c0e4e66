use mathlib.Core.Path.{◌≡◌}
use lib.ListN.{length}
use Rattle.replanning.specs.Parts.{Writable}
use Rattle.replanning.proofs.Written.{Writing}
use Rattle.replanning.proofs.records.write_all.Given as goal

abbrev pub invariant-loop-k : goal.invariant-loop-k
invariant-loop-k l = (length l.charges ≡ length l.initial.charges) × ((w : Writable l.answers l.initial.charges) → Writing w l.charges l.k l.changed)
