use mathlib.Core.Path.{◌≡◌}
use native.Mathlib.Omega.{arith}
use Rattle.signature.specs.Limits.{number_count}
use Rattle.signature.proofs.Tests.{eqb_no}
use Rattle.decoding.proofs.decode.flag_by.Goals as goal

pub returns-then-count-ne-NUMBER_COUNT : goal.returns-then-count-ne-NUMBER_COUNT
returns-then-count-ne-NUMBER_COUNT c = rw (eqb_no c.args.count number_count c.if-count-ne-NUMBER_COUNT.true)

pub returns : goal.returns
returns c = let e : c.args.count ≡ number_count = omega arith in rw e
