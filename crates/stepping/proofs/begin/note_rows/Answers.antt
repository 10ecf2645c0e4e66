use Prim.Native.Nat.{◌≤◌, ◌<◌}
use native.Mathlib.Omega.{arith}
use lib.ListN.{length, length-set}
use Rattle.signature.specs.Limits.{argument_limit}
use Rattle.signature.proofs.KnownFacts.{constructors, arity_is, few_arguments}
use Rattle.stepping.proofs.BeginLaws.{rows_more}
use Rattle.stepping.proofs.begin.note_rows.Goals.{After-arity_of}
use Rattle.stepping.proofs.begin.note_rows.Goals as goal

-- a row has at most four arguments
few : (c : After-arity_of) → c.arity_of.result ≤ argument_limit
few c =
    let g = c.requires.0 in
    let l : c.loop-c.c < length g.sig = omega (arith, c.constructors_of-n.ensures, constructors g) in
    omega (arith, c.arity_of.ensures, arity_is g c.loop-c.c l, few_arguments g c.loop-c.c l)

pub overflow_add-at : goal.overflow_add-at
overflow_add-at c = omega (arith, few c)

pub overflow_add-at-in-loop-c : goal.overflow_add-at-in-loop-c
overflow_add-at-in-loop-c c = omega (arith, few c)

pub loop-c-preserved : goal.loop-c-preserved
loop-c-preserved c = let l = c.loop-c in (omega arith, omega arith, omega (arith, few c), rw length-set l.invariant.3, λ g. rows_more g l.st l.at l.c _ (omega (arith, c.constructors_of-n.ensures)) (omega (arith, c.requires.1)) c.arity_of.ensures (l.invariant.4 g))
