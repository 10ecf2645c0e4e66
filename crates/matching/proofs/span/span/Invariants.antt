use Prim.Native.Nat.{◌-◌}
use lib.ListN.{length}
use Rattle.pattern.specs.Given.{Opens}
use Rattle.pattern.specs.Pattern.{pattern_code}
use Rattle.matching.proofs.SpanLaws.{Left}
use Rattle.matching.proofs.span.span.Given as goal

abbrev pub invariant-loop-left : goal.invariant-loop-left
invariant-loop-left l = (o : Opens l.t l.p) → Left o.known.sig l.p (length (pattern_code o.pattern)) l.left l.at

abbrev pub decreases-loop-left : goal.decreases-loop-left
decreases-loop-left l = length l.p - l.at
