use mathlib.Core.Path.{refl, ◌∙◌}
use native.Mathlib.Omega.{arith}
use lib.ListN.{length-take, length-drop}
use Rattle.cell.proofs.Walk.{back_length}
use Rattle.overlap.proofs.LeastFacts.{start, arity_here, tag_here, constructor_here, arity_small, argument_there, whole, given, turn, end}
use Rattle.overlap.proofs.least.+with_least.Goals as goal

pub head_arity-n-requires : goal.head_arity-n-requires
head_arity-n-requires t c = let g = c.requires in (g.known.decoded.long, tag_here g)

pub loop-j-init : goal.loop-j-init
loop-j-init t c = let g = c.requires in (refl, omega arith, omega (arith, g.room), omega arith, λ g. start g)

pub argument_of-k-requires : goal.argument_of-k-requires
argument_of-k-requires t c = let g = c.requires in (g.known.decoded.long, constructor_here g c.loop-j.j (omega (arith, c.loop-j-test.true, c.head_arity-n.ensures, arity_here g)), omega (arith, c.loop-j-test.true, c.head_arity-n.ensures, arity_here g, arity_small g))

pub least_head_of-h-requires : goal.least_head_of-h-requires
least_head_of-h-requires t c = let g = c.requires in (g.known.decoded.long, omega (arith, argument_there g c.loop-j.j (omega (arith, c.loop-j-test.true, c.head_arity-n.ensures, arity_here g)), c.argument_of-k.ensures))

pub with_least-at-requires : goal.with_least-at-requires
with_least-at-requires t c = let g = c.requires in (
  simp (length-take, length-drop) (omega (arith, c.loop-j.invariant.0, c.loop-j.invariant.1, c.loop-j.invariant.2)),
  given g c.loop-j.at c.loop-j.j c.loop-j.out c.argument_of-k.result c.least_head_of-h.result (c.loop-j.invariant.4 g) (omega (arith, c.loop-j-test.true, c.head_arity-n.ensures, arity_here g)) c.argument_of-k.ensures c.least_head_of-h.ensures,
)

pub overflow_add-at : goal.overflow_add-at
overflow_add-at t c = omega (arith, (let g = c.requires in whole g _ _ _ (turn g c.loop-j.at c.loop-j.j c.loop-j.out c.argument_of-k.result c.least_head_of-h.result c.with_least-at.result c.with_least-at.new.out (c.loop-j.invariant.4 g) (omega (arith, c.loop-j-test.true, c.head_arity-n.ensures, arity_here g)) c.argument_of-k.ensures c.least_head_of-h.ensures c.with_least-at.ensures)).2)

pub loop-j-preserved : goal.loop-j-preserved
loop-j-preserved t c = (
  back_length c.loop-j.out c.with_least-at.new.out c.loop-j.at (omega (arith, c.loop-j.invariant.0, c.loop-j.invariant.2)) c.with_least-at.auto.out ∙ c.loop-j.invariant.0,
  (let g = c.requires in whole g _ _ _ (turn g c.loop-j.at c.loop-j.j c.loop-j.out c.argument_of-k.result c.least_head_of-h.result c.with_least-at.result c.with_least-at.new.out (c.loop-j.invariant.4 g) (omega (arith, c.loop-j-test.true, c.head_arity-n.ensures, arity_here g)) c.argument_of-k.ensures c.least_head_of-h.ensures c.with_least-at.ensures)).1,
  (let g = c.requires in whole g _ _ _ (turn g c.loop-j.at c.loop-j.j c.loop-j.out c.argument_of-k.result c.least_head_of-h.result c.with_least-at.result c.with_least-at.new.out (c.loop-j.invariant.4 g) (omega (arith, c.loop-j-test.true, c.head_arity-n.ensures, arity_here g)) c.argument_of-k.ensures c.least_head_of-h.ensures c.with_least-at.ensures)).2,
  omega (arith, c.loop-j-test.true),
  λ g. (turn g c.loop-j.at c.loop-j.j c.loop-j.out c.argument_of-k.result c.least_head_of-h.result c.with_least-at.result c.with_least-at.new.out (c.loop-j.invariant.4 g) (omega (arith, c.loop-j-test.true, c.head_arity-n.ensures, arity_here g)) c.argument_of-k.ensures c.least_head_of-h.ensures c.with_least-at.ensures),
)

pub returns : goal.returns
returns t c = λ g. end g c.loop-j.at c.loop-j.j c.loop-j.out (c.loop-j.invariant.4 g) (omega (arith, c.loop-j-test.false, c.head_arity-n.ensures, arity_here g))
