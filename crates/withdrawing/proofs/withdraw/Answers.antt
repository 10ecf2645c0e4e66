use mathlib.Core.Path.{refl}
use Rattle.std.proofs.lemmas.Result.{err_from_is_err_and}
use Rattle.signature.proofs.Numbers.{not_0}
use Rattle.withdrawing.proofs.Facts.{turned_down, in_table, withdrawn_so}
use Rattle.withdrawing.proofs.withdraw.Goals as goal

pub returns-in_err-open : goal.returns-in_err-open
returns-in_err-open c = let p = err_from_is_err_and c.from_residual.result c.from_residual.ensures.1 in rw (p.1, p.2) (turned_down c.args.ss.now c.args.table.now _ c.args.number _ c.in_err-open.ensures (not_0 _))

pub withdraw_from-requires : goal.withdraw_from-requires
withdraw_from-requires c = in_table c.args.ss.now c.args.table.now _ c.args.number _ c.in_ok-open.ensures refl

pub returns : goal.returns
returns c = withdrawn_so c.args.ss.now c.args.table.now _ c.args.number _ c.in_ok-open.ensures refl _ c.withdraw_from.new.table c.withdraw_from.ensures
