use native.Mathlib.Omega.{arith}
use Rattle.signature.proofs.Booleans.{not_true, not_false}
use Rattle.linearity.proofs.VarSets.{own_minus, own_none, own_var}
use Rattle.linearity.proofs.linear.own_set.Goals as goal

pub returns-then-not-plus : goal.returns-then-not-plus
returns-then-not-plus c = own_minus c.args.plus _ (not_true _ c.if-not-plus.true-raw)

pub only-requires : goal.only-requires
only-requires c = let h = rw c.in-Var.is at c.requires in omega arith

pub returns-in-Var : goal.returns-in-Var
returns-in-Var c = rw c.in-Var.is (own_var c.args.plus c.in-Var.x _ (not_false _ c.if-not-plus.false-raw) c.only.ensures)

pub returns-in_default : goal.returns-in_default
returns-in_default c = own_none c.args.plus c.args.w c.in_default.not-Var
