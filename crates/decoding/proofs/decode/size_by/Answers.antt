use mathlib.Core.Path.{refl}
use Prim.Native.Nat.{◌+◌}
use native.Mathlib.Omega.{arith}
use Rattle.signature.specs.Decoded.{first_of, count_of}
use Rattle.decoding.proofs.Sizes.{fewest_start, fewest_next, fewest_one}
use Rattle.decoding.proofs.decode.size_by.Goals as goal

pub loop-c-init : goal.loop-c-init
loop-c-init c = (omega arith, omega arith, omega arith, omega arith, fewest_start _ _ c.wide-first.result (c.wide-first.result + c.wide.result) _ (first_of c.args.t.now c.args.k) (count_of c.args.t.now c.args.k) (omega arith) (omega arith) refl refl)

pub returns-then-size-eq1 : goal.returns-then-size-eq1
returns-then-size-eq1 c = fewest_one _ _ c.loop-c.c _ _ _ _ c.loop-c-test.true c.words_of.ensures c.min-size.ensures c.if-size-eq1.true c.loop-c.invariant.4

pub loop-c-preserved : goal.loop-c-preserved
loop-c-preserved c = (omega arith, c.loop-c.invariant.1, omega arith, omega arith, fewest_next _ _ c.loop-c.c _ _ _ _ c.loop-c-test.true c.words_of.ensures c.min-size.ensures c.loop-c.invariant.4)
