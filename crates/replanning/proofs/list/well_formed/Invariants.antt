use mathlib.Core.Path.{◌≡◌}
use Rattle.charges.specs.Limits.{record_length}
use Rattle.replanning.proofs.Lists.{Reading}
use Rattle.replanning.proofs.list.well_formed.Given as goal

abbrev pub invariant-loop-record : goal.invariant-loop-record
invariant-loop-record l = (l.record-iterator.size ≡ record_length) × Reading l.charges l.record-iterator.rest.now
