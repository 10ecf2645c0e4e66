use Prim.Native.Nat.{◌-◌}
use lib.ListN.{length}
use Rattle.signature.specs.Decoded.{Starts}
use Rattle.signature.specs.Value.{size}
use Rattle.booking.proofs.SpanLaws.{Left}
use Rattle.booking.proofs.walk.span.Given as goal

abbrev pub invariant-loop-left : goal.invariant-loop-left
invariant-loop-left l = (s : Starts l.t l.b) → Left s.known.sig l.b (size s.value) l.left l.at

abbrev pub decreases-loop-left : goal.decreases-loop-left
decreases-loop-left l = length l.b - l.at
