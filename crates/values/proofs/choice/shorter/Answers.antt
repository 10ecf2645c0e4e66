use Rattle.signature.proofs.Tests.{ltb_yes, ltb_no}
use Rattle.values.proofs.choice.shorter.Goals as goal

pub returns-then-b-a : goal.returns-then-b-a
returns-then-b-a c = let e = c.args in rw (ltb_yes e.b.size e.a.size c.if-b-a.true)

pub returns : goal.returns
returns c = let e = c.args in rw (ltb_no e.b.size e.a.size c.if-b-a.false)
