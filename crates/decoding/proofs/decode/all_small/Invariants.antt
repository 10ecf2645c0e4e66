use mathlib.Core.Path.{◌≡◌}
use mathlib.Core.Bool.{true}
use Prim.Native.Nat.{ℕ, ◌≤◌, ◌<◌}
use lib.Dec.{leb}
use lib.ListN.{get_or}
use Rattle.signature.specs.Limits.{small_size}
use Rattle.decoding.proofs.decode.all_small.Given as goal

abbrev pub invariant-loop-k : goal.invariant-loop-k
invariant-loop-k l = (l.k ≤ l.kinds) × ((j : ℕ) → j < l.k → leb (get_or l.sizes j 0) small_size ≡ true)
