use mathlib.Core.Path.{◌≡◌}
use Prim.Native.Nat.{◌+◌, ◌≤◌}
use lib.ListN.{length}
use Rattle.pattern.specs.Limits.{variable_count}
use Rattle.printing.specs.Pairs.{pairs_bytes}
use Rattle.printing.proofs.PairLaws.{Paired}
use Rattle.printing.proofs.pairs.put_pairs.Given as goal

abbrev pub invariant-loop-x : goal.invariant-loop-x
invariant-loop-x l = (length l.places ≤ variable_count) × (l.from + length (pairs_bytes l.places) ≤ length l.initial.out) × (length l.out ≡ length l.initial.out) × Paired l.places l.initial.out l.out l.from l.at l.x
