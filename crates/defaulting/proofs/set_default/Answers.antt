use mathlib.Core.Path.{refl}
use native.Mathlib.Omega.{arith}
use Rattle.std.proofs.lemmas.Result.{err_from_is_err_and}
use Rattle.signature.proofs.Numbers.{not_0}
use Rattle.defaulting.proofs.Facts.{turned_down, long, set_so}
use Rattle.defaulting.proofs.set_default.Goals as goal

pub returns-in_err-open : goal.returns-in_err-open
returns-in_err-open c = let p = err_from_is_err_and c.from_residual.result c.from_residual.ensures.1 in rw (p.1, p.2) (turned_down c.args.ss.now c.args.table.now _ c.args.plan _ c.in_err-open.ensures (not_0 _))

pub bounds-table-1 : goal.bounds-table-1
bounds-table-1 c = omega (arith, long c.args.ss.now c.args.table.now _ c.args.plan _ c.in_ok-open.ensures refl)

pub returns : goal.returns
returns c = set_so c.args.ss.now c.args.table.now _ c.args.plan _ c.in_ok-open.ensures refl
