use Rattle.decoding.specs.Decoding.{sum}
use Rattle.decoding.proofs.Fewest.{Lowering}
use Rattle.decoding.proofs.decode.least_sizes.Given as goal

abbrev pub invariant-loop-kinds : goal.invariant-loop-kinds
invariant-loop-kinds l = Lowering l.t l.kinds l.sizes

abbrev pub decreases-loop-kinds : goal.decreases-loop-kinds
decreases-loop-kinds l = sum l.sizes
