use Prim.Native.Nat.{◌≤◌}
use Rattle.decoding.specs.Decoding.{Marked}
use Rattle.decoding.proofs.decode.mark_numbers.Given as goal

abbrev pub invariant-loop-c : goal.invariant-loop-c
invariant-loop-c l = (l.c ≤ l.n) × Marked l.initial.t l.c l.t
