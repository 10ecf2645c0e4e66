use Rattle.signature.specs.Limits.{level_base}
use Rattle.signature.proofs.Tests.{eqb_no}
use Rattle.preorder.proofs.front.front_words.Goals as goal

pub returns-then-f-eq-LEVEL_BASE : goal.returns-then-f-eq-LEVEL_BASE
returns-then-f-eq-LEVEL_BASE c = rw c.if-f-eq-LEVEL_BASE.true

pub returns : goal.returns
returns c = rw (eqb_no c.args.f level_base c.if-f-eq-LEVEL_BASE.false)
