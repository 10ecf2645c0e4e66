use Rattle.decoding.proofs.Sizes.{Summed}
use Rattle.decoding.proofs.decode.words_of.Given as goal

abbrev pub invariant-loop-j : goal.invariant-loop-j
invariant-loop-j l = Summed l.t l.c l.sizes l.arity l.sum l.j
