use mathlib.Core.Path.{◌≡◌}
use mathlib.Core.Bool.{true}
use Prim.Native.Nat.{ℕ, ◌≤◌, ◌<◌}
use lib.Dec.{leb}
use Rattle.signature.specs.Limits.{row_limit}
use Rattle.signature.specs.Decoded.{count_of}
use Rattle.decoding.proofs.decode.few_rows.Given as goal

abbrev pub invariant-loop-k : goal.invariant-loop-k
invariant-loop-k l = (l.k ≤ l.kinds) × ((j : ℕ) → j < l.k → leb (count_of l.t j) row_limit ≡ true)
