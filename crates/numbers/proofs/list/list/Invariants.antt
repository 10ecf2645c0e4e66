use mathlib.Core.Path.{◌≡◌}
use Prim.Native.Nat.{◌≤◌}
use lib.ListN.{length}
use Rattle.numbers.proofs.Lists.{Reading}
use Rattle.numbers.proofs.list.list.Given as goal

abbrev pub invariant-loop-n : goal.invariant-loop-n
invariant-loop-n l = (l.n ≤ l.limit) × (l.limit ≤ length l.out) × (length l.out ≡ length l.initial.out) × Reading l.limit l.s l.t l.initial.out l.out l.n × (length l.t ≤ length l.s)

abbrev pub decreases-loop-n : goal.decreases-loop-n
decreases-loop-n l = length l.t
