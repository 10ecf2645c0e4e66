use Rattle.signature.specs.Limits.{number_count}
use Rattle.signature.proofs.Tests.{eqb_no}
use Rattle.decoding.proofs.decode.argument_count.Goals as goal

pub returns-then-count-eq-NUMBER_COUNT : goal.returns-then-count-eq-NUMBER_COUNT
returns-then-count-eq-NUMBER_COUNT c = rw c.if-count-eq-NUMBER_COUNT.true

pub returns : goal.returns
returns c = rw (eqb_no c.args.count number_count c.if-count-eq-NUMBER_COUNT.false)
