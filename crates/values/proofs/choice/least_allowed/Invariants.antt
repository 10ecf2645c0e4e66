use mathlib.Core.Path.{◌≡◌}
use mathlib.Core.Bool.{cond}
use Prim.Native.Nat.{ℕ}
use lib.Count.{ones}
use lib.Dec.{eqb}
use Rattle.signature.specs.Decoded.{first_of}
use Rattle.sets.specs.Heads.{number_of}
use Rattle.sets.specs.Set.{bit}
use Rattle.values.specs.Shortest.{GivenHeads}
use Rattle.values.proofs.Choosing.{Best}
use Rattle.values.proofs.choice.least_allowed.Given as goal

abbrev pub invariant-loop-best : goal.invariant-loop-best
invariant-loop-best l = (allowed : ℕ) → bit allowed l.i ≡ 1 → ((j : ℕ) → bit (number_of l.initial.left) j ≡ cond (eqb j l.i) 0 (bit allowed j)) → (g : GivenHeads l.t l.k allowed) (e : l.f ≡ first_of l.t l.k) → Best g l.f e l.best (number_of l.left)

abbrev pub decreases-loop-best : goal.decreases-loop-best
decreases-loop-best l = ones (number_of l.left)
