use Prim.Native.Nat.{◌≤◌}
use Rattle.decoding.specs.Decoding.{words_from, Copied, Highest}
use Rattle.decoding.proofs.decode.copy_words.Given as goal

abbrev pub invariant-loop-i : goal.invariant-loop-i
invariant-loop-i l = (l.i ≤ l.count) × Copied l.w l.from l.initial.t l.to l.i l.t × Highest l.most (words_from l.w l.from l.i) l.highest
