use mathlib.Core.Path.{◌≡◌}
use Prim.Native.Nat.{◌+◌, ◌-◌, ◌≤◌, min}
use Rattle.signature.specs.Limits.{over_small}
use Rattle.signature.specs.Lists.{count_up}
use Rattle.signature.specs.Decoded.{first_of, count_of}
use Rattle.decoding.specs.Decoding.{fewest, row_words, size_by}
use Rattle.decoding.proofs.decode.size_by.Given as goal

abbrev pub invariant-loop-c : goal.invariant-loop-c
invariant-loop-c l = (first_of l.t l.k ≤ l.c) × (l.end ≡ first_of l.t l.k + count_of l.t l.k) × (l.c ≤ l.end) × (l.size ≤ over_small) × (size_by l.t l.sizes l.k ≡ min l.size (fewest (row_words l.t l.sizes) (count_up l.c (l.end - l.c))))
