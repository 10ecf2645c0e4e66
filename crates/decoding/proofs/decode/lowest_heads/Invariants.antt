use mathlib.Core.Path.{◌≡◌}
use Prim.Native.Nat.{ℕ, ◌≤◌, ◌<◌}
use lib.ListN.{length, get_or}
use Rattle.signature.specs.Limits.{kind_limit}
use Rattle.decoding.specs.Decoding.{lowest_in}
use Rattle.decoding.proofs.decode.lowest_heads.Given as goal

abbrev pub invariant-loop-k : goal.invariant-loop-k
invariant-loop-k l = (l.k ≤ l.kinds) × (length l.heads ≡ kind_limit) × ((j : ℕ) → j < l.k → get_or l.heads j 0 ≡ lowest_in l.t l.sizes j)
