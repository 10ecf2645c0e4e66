use Prim.Native.Nat.{◌+◌}
use native.Mathlib.Omega.{arith}
use Rattle.overlap.proofs.LeastFacts.{arity_here, tag_here, constructor_here, arity_small, argument_there}
use Rattle.values.proofs.Sized.{as_head, few, turn, end}
use Rattle.values.proofs.sizes.head_size.Goals as goal

pub head_arity-n-requires : goal.head_arity-n-requires
head_arity-n-requires c = let g = c.requires in (g.known.decoded.long, tag_here (as_head g))

pub argument_of-k-requires : goal.argument_of-k-requires
argument_of-k-requires c = let g = c.requires in (g.known.decoded.long, constructor_here (as_head g) c.loop-j.j (omega (arith, c.loop-j-test.true, c.head_arity-n.ensures, arity_here (as_head g))), omega (arith, c.loop-j-test.true, c.head_arity-n.ensures, arity_here (as_head g), arity_small (as_head g)))

pub least_size_of-requires : goal.least_size_of-requires
least_size_of-requires c = let g = c.requires in (g.known.decoded.long, omega (arith, argument_there (as_head g) c.loop-j.j (omega (arith, c.loop-j-test.true, c.head_arity-n.ensures, arity_here (as_head g))), c.argument_of-k.ensures))

pub overflow_add-s : goal.overflow_add-s
overflow_add-s c = let g = c.requires in omega (arith, few g (c.loop-j.s + c.least_size_of.result) (c.loop-j.j + 1) ((turn g c.loop-j.s c.loop-j.j (c.loop-j.invariant.1 g) c.argument_of-k.result c.least_size_of.result (omega (arith, c.loop-j-test.true, c.head_arity-n.ensures, arity_here (as_head g))) c.argument_of-k.ensures c.least_size_of.ensures).1))

pub loop-j-preserved : goal.loop-j-preserved
loop-j-preserved c = (omega (arith, c.loop-j-test.true), λ g. ((turn g c.loop-j.s c.loop-j.j (c.loop-j.invariant.1 g) c.argument_of-k.result c.least_size_of.result (omega (arith, c.loop-j-test.true, c.head_arity-n.ensures, arity_here (as_head g))) c.argument_of-k.ensures c.least_size_of.ensures).1))

pub returns : goal.returns
returns c = λ g. end g c.loop-j.s c.loop-j.j (c.loop-j.invariant.1 g) (omega (arith, c.loop-j-test.false, c.head_arity-n.ensures, arity_here (as_head g)))
