use mathlib.Core.Path.{◌≡◌}
use mathlib.Core.Bool.{false}
use Prim.Native.Nat.{◌≤◌}
use lib.ListN.{length, drop}
use Rattle.ambiguity.specs.Ambiguity.{may_double}
use Rattle.ambiguity.proofs.ambiguous.may_double.Given as goal

abbrev pub invariant-loop-word : goal.invariant-loop-word
invariant-loop-word l = (l.word-index ≤ length l.p) × (may_double false l.p ≡ may_double l.below (drop l.word-index l.p))
