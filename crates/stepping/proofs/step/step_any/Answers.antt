use mathlib.Core.Path.{sym, ◌∙◌}
use native.Mathlib.Omega.{arith}
use Rattle.stepping.proofs.TakeLaws.{stuck, goes_on, goes_wrong}
use Rattle.stepping.proofs.step.step_any.Goals as goal

pub returns-then-q-ne0 : goal.returns-then-q-ne0
returns-then-q-ne0 c = stuck c.args.ss.now c.args.st.now c.args.w (λ e. omega arith) _ c.refusal.ensures

pub returns-then-take : goal.returns-then-take
returns-then-take c = let t = c.take in goes_on c.args.ss.now c.args.st.now c.args.w c.requires (omega arith) _ t.ensures.moved (sym c.if-take.true ∙ t.ensures.told)

pub returns : goal.returns
returns c = let t = c.take in goes_wrong c.args.ss.now c.args.st.now c.args.w c.requires (omega arith) _ t.ensures.moved (sym c.if-take.false ∙ t.ensures.told)
