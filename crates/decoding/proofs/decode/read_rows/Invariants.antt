use Prim.Native.Nat.{◌≤◌}
use Rattle.decoding.specs.Decoding.{Reading}
use Rattle.decoding.proofs.decode.read_rows.Given as goal

abbrev pub invariant-loop-c : goal.invariant-loop-c
invariant-loop-c l = (l.c ≤ l.n) × Reading l.w l.t l.c l.s.place l.s.kinds l.s.most l.s.numbers
