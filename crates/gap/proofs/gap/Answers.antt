use mathlib.Core.Path.{refl}
use native.Mathlib.Omega.{arith}
use Rattle.std.proofs.lemmas.Result.{err_from_is_err_and}
use Rattle.signature.proofs.Numbers.{not_0}
use Rattle.gap.proofs.Calling.{turned_down, here, here_again, answered_first, answered_then, always}
use Rattle.gap.proofs.gap.Goals as goal

pub returns-in_err-begin-clause-call : goal.returns-in_err-begin-clause-call
returns-in_err-begin-clause-call c = let p = err_from_is_err_and c.from_residual.result c.from_residual.ensures.1 in rw (p.1, p.2) (turned_down c.args.ss.now c.args.table.now c.args.witness.now _ c.long_enough-long.ensures _ _ c.in_err-begin.ensures (not_0 _))

pub gap_in-requires : goal.gap_in-requires
gap_in-requires c = (here c.args.ss.now c.args.table.now c.args.witness.now _ c.long_enough-long.ensures _ _ c.in_ok-begin.ensures refl, omega arith, omega arith)

pub gap_in-requires-2 : goal.gap_in-requires-2
gap_in-requires-2 c = (here_again c.args.ss.now c.args.table.now c.args.witness.now _ c.long_enough-long.ensures _ _ c.in_ok-begin.ensures refl _ _ _ c.gap_in.ensures c.in_default.is, omega arith, omega arith)

pub returns-in-Some : goal.returns-in-Some
returns-in-Some c = let (h, w) = answered_first c.args.ss.now c.args.table.now c.args.witness.now _ c.long_enough-long.ensures _ _ c.in_ok-begin.ensures refl _ _ _ c.gap_in.ensures _ c.in-Some.is in record { call = h; worded = w }

pub unwrap-requires : goal.unwrap-requires
unwrap-requires c = let g = here_again c.args.ss.now c.args.table.now c.args.witness.now _ c.long_enough-long.ensures _ _ c.in_ok-begin.ensures refl _ _ _ c.gap_in.ensures c.in_default.is in always g.load.known.sig c.args.table.now c.gap_in.new.witness c.gap_in-2.result c.gap_in-2.new.witness (c.gap_in-2.ensures g)

pub returns : goal.returns
returns c = let (h, w) = answered_then c.args.ss.now c.args.table.now c.args.witness.now _ c.long_enough-long.ensures _ _ c.in_ok-begin.ensures refl _ _ _ c.gap_in.ensures c.in_default.is _ _ _ _ c.gap_in-2.ensures c.unwrap.ensures in record { call = h; worded = w }
