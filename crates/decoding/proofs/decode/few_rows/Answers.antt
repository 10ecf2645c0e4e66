use native.Mathlib.Omega.{arith}
use Rattle.signature.specs.Limits.{row_limit}
use Rattle.signature.specs.Decoded.{count_of}
use Rattle.signature.proofs.Tests.{leb_no}
use Rattle.signature.proofs.Counting.{count_passed, count_failed}
use Rattle.decoding.proofs.decode.few_rows.Goals as goal

pub returns-then-count_of-gt-ROW_LIMIT : goal.returns-then-count_of-gt-ROW_LIMIT
returns-then-count_of-gt-ROW_LIMIT c = count_failed _ c.loop-k.k _ c.loop-k-test.true (leb_no (count_of c.args.t.now c.loop-k.k) row_limit (omega arith))

pub returns : goal.returns
returns c = count_passed _ c.loop-k.k _ c.loop-k-test.false c.loop-k.invariant.1
