use native.Mathlib.Omega.{arith}
use lib.ListN.{get_or}
use Rattle.signature.specs.Limits.{small_size}
use Rattle.signature.proofs.Tests.{leb_no}
use Rattle.signature.proofs.Counting.{count_passed, count_failed}
use Rattle.decoding.proofs.decode.all_small.Goals as goal

pub returns-then-sizes-k-gt-SMALL_SIZE : goal.returns-then-sizes-k-gt-SMALL_SIZE
returns-then-sizes-k-gt-SMALL_SIZE c = count_failed _ c.loop-k.k c.args.kinds (omega arith) (leb_no (get_or c.args.sizes.now c.loop-k.k 0) small_size (omega arith))

pub returns : goal.returns
returns c = count_passed _ c.loop-k.k _ c.loop-k-test.false c.loop-k.invariant.1
