use mathlib.Core.Path.{◌≡◌}
use mathlib.Core.List.{◌++◌}
use Prim.Native.Nat.{◌+◌, ◌≤◌}
use lib.ListN.{length, take}
use Rattle.rowlist.proofs.grow.copy.Given as goal

abbrev pub invariant-loop-i : goal.invariant-loop-i
invariant-loop-i l = (l.i ≤ l.n) × (l.n ≤ length l.x) × (l.at + l.n ≤ length l.out) × (length l.out ≡ length l.initial.out) × (take (l.at + l.i) l.out ≡ take l.at l.initial.out ++ take l.i l.x)
