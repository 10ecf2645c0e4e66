use mathlib.Core.Path.{◌≡◌}
use Prim.Native.Nat.{◌-◌}
use lib.ListN.{length}
use Rattle.pattern.specs.Limits.{variable_count}
use Rattle.pattern.specs.Places.{unbound}
use Rattle.tree.specs.Run.{bound}
use Rattle.run.proofs.leaf.bind.Given as goal

abbrev pub invariant-loop-i : goal.invariant-loop-i
invariant-loop-i l = (length l.places ≡ variable_count) × (bound l.count 0 l.pairs l.visits unbound ≡ bound (l.count - l.i) l.least l.w l.visits l.places)
