use mathlib.Core.Path.{◌≡◌}
use mathlib.Core.Bool.{true}
use Prim.Native.Nat.{ℕ, ◌≤◌, ◌<◌}
use Rattle.decoding.specs.Decoding.{row, alone_by}
use Rattle.decoding.proofs.decode.numbers_alone.Given as goal

abbrev pub invariant-loop-c : goal.invariant-loop-c
invariant-loop-c l = (l.c ≤ l.n) × ((i : ℕ) → i < l.c → alone_by l.t (row l.t i) ≡ true)
