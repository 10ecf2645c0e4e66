use mathlib.Core.Path.{refl, ◌∙◌}
use native.Mathlib.Omega.{arith}
use lib.ListN.{length-set}
use Rattle.replanning.proofs.Written.{writing_start, all_written, found, few, writing_next, differs}
use Rattle.replanning.proofs.records.write_all.Goals as goal

pub loop-k-init : goal.loop-k-init
loop-k-init c = (refl, λ w. writing_start w)

pub bounds-answers-k : goal.bounds-answers-k
bounds-answers-k c = omega (arith, found c.requires (c.loop-k.invariant.1 c.requires) (omega (arith, c.loop-k-test.true, c.loop-k.invariant.0)))

pub bounds-answers-k-in-loop-k : goal.bounds-answers-k-in-loop-k
bounds-answers-k-in-loop-k c = omega (arith, found c.requires (c.loop-k.invariant.1 c.requires) (omega (arith, c.loop-k-test.true, c.loop-k.invariant.0)))

pub overflow_add-changed : goal.overflow_add-changed
overflow_add-changed c = omega (arith, few c.requires (c.loop-k.invariant.1 c.requires) (omega (arith, c.loop-k-test.true, c.loop-k.invariant.0)) c.from-changed.result (c.from-changed.ensures ∙ differs _))

pub loop-k-preserved : goal.loop-k-preserved
loop-k-preserved c = (simp length-set c.loop-k.invariant.0, λ w. writing_next w (c.loop-k.invariant.1 w) (omega (arith, c.loop-k-test.true, c.loop-k.invariant.0)) c.from-changed.result (c.from-changed.ensures ∙ differs _))

pub returns : goal.returns
returns c = λ w. all_written w (c.loop-k.invariant.1 w) (omega (arith, c.loop-k-test.false, c.loop-k.invariant.0))
