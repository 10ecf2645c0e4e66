use mathlib.Core.Path.{◌≡◌}
use Prim.Native.Nat.{◌≤◌}
use lib.ListN.{length}
use Rattle.signature.specs.Lists.{is_some}
use Rattle.text.specs.Limits.{list_limit}
use Rattle.lines.specs.Lines.{rest_text}
use Rattle.format.proofs.whole.rest_keeps.Given as goal

abbrev pub invariant-loop-w : goal.invariant-loop-w
invariant-loop-w l = (list_limit ≤ length l.w) × (length l.w ≡ length l.initial.w) × (is_some (rest_text l.rest) ≡ is_some (rest_text l.t))

abbrev pub decreases-loop-w : goal.decreases-loop-w
decreases-loop-w l = length l.t
