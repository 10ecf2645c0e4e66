use Rattle.signature.proofs.Tests.{eqb_no}
use Rattle.stepping.proofs.state.refusal.Goals as goal

pub returns-then-q-eq0 : goal.returns-then-q-eq0
returns-then-q-eq0 c = rw c.if-q-eq0.true

pub returns-then-q-eq-SIGNATURE_UNLAWFUL : goal.returns-then-q-eq-SIGNATURE_UNLAWFUL
returns-then-q-eq-SIGNATURE_UNLAWFUL c = rw c.if-q-eq-SIGNATURE_UNLAWFUL.true

pub returns : goal.returns
returns c = rw (eqb_no c.args.q 0 c.if-q-eq0.false, eqb_no c.args.q 1 c.if-q-eq-SIGNATURE_UNLAWFUL.false)
