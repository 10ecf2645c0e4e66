use Rattle.decoding.specs.Decoding.{SizesLowered}
use Rattle.decoding.proofs.decode.lower_sizes.Given as goal

abbrev pub invariant-loop-k : goal.invariant-loop-k
invariant-loop-k l = SizesLowered l.t l.kinds l.k l.initial.sizes l.sizes l.lowered
