use mathlib.Core.Path.{◌≡◌}
use Prim.Native.Nat.{◌+◌, ◌≤◌}
use lib.ListN.{get_or}
use Rattle.signature.specs.Decoded.{first_of, count_of}
use Rattle.decoding.specs.Decoding.{row_words, lowest_in}
use Rattle.decoding.proofs.Sizes.{FirstFrom}
use Rattle.decoding.proofs.decode.lowest_head.Given as goal

abbrev pub invariant-loop-c : goal.invariant-loop-c
invariant-loop-c l = (first_of l.t l.k ≤ l.c) × (l.end ≡ first_of l.t l.k + count_of l.t l.k) × (l.c ≤ l.end) × FirstFrom (row_words l.t l.sizes) (get_or l.sizes l.k 0) (lowest_in l.t l.sizes l.k) l.c l.end
