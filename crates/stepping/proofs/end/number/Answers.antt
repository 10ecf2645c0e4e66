use native.Mathlib.Omega.{arith}
use Rattle.stepping.proofs.CaseLaws.{end_refused, end_empty, end_open, end_whole}
use Rattle.stepping.proofs.end.number.Goals as goal

pub returns-then-q-ne0 : goal.returns-then-q-ne0
returns-then-q-ne0 c = end_refused c.args.st.now _ (λ e. omega arith) c.refusal.ensures

pub returns-then-st-eq0 : goal.returns-then-st-eq0
returns-then-st-eq0 c = end_empty c.args.st.now (omega arith) c.if-st-eq0.true

pub returns-then-st-ne0 : goal.returns-then-st-ne0
returns-then-st-ne0 c = end_open c.args.st.now (omega arith) (λ e. omega arith) (λ e. omega arith)

pub returns : goal.returns
returns c = end_whole c.args.st.now (omega arith) (λ e. omega arith) (omega arith)
