use Prim.Native.Nat.{◌≤◌}
use Rattle.decoding.specs.Decoding.{LeastNoted}
use Rattle.decoding.proofs.decode.note_least.Given as goal

abbrev pub invariant-loop-k : goal.invariant-loop-k
invariant-loop-k l = (l.k ≤ l.kinds) × LeastNoted l.initial.t l.k l.heads l.sizes l.t
