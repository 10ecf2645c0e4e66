use mathlib.Core.Path.{◌≡◌}
use Prim.Native.Nat.{◌≤◌, ◌<◌}
use Rattle.sets.specs.Set.{bit}
use Rattle.search.proofs.hint.best.Given as goal

abbrev pub invariant-loop-i : goal.invariant-loop-i
invariant-loop-i l = (l.i ≤ 64) × (bit l.edge l.c ≡ 1) × (l.c < 64)
