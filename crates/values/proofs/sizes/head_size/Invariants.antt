use Prim.Native.Nat.{◌≤◌}
use Rattle.values.specs.Shortest.{GivenSize}
use Rattle.values.proofs.Sized.{Counted}
use Rattle.values.proofs.sizes.head_size.Given as goal

abbrev pub invariant-loop-j : goal.invariant-loop-j
invariant-loop-j l = (l.j ≤ l.n) × ((g : GivenSize l.t l.c) → Counted g l.s l.j)
