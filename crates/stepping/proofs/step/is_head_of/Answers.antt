use native.Mathlib.Omega.{arith}
use Rattle.stepping.proofs.CaseLaws.{no_kind, of_kind}
use Rattle.stepping.proofs.step.is_head_of.Goals as goal

pub returns-then-j-ge-KIND_LIMIT : goal.returns-then-j-ge-KIND_LIMIT
returns-then-j-ge-KIND_LIMIT c = no_kind c.args.st.now c.args.k c.args.w (omega arith)

pub returns : goal.returns
returns c = of_kind c.args.st.now c.args.k c.args.w _ _ c.wide-j.ensures (omega arith) c.is_head.ensures
