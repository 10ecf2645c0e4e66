use mathlib.Core.Path.{refl, ap}
use native.Mathlib.Omega.{arith}
use Rattle.signature.specs.Refusal.{number_in}
use Rattle.signature.proofs.Numbers.{positive}
use Rattle.entering.proofs.Enters.{turned_down, given, entered_first, given_again, entered_then, always}
use Rattle.entering.proofs.enter.enter.Goals as goal

pub returns-in-Err : goal.returns-in-Err
returns-in-Err c = record { enter = turned_down c.args.ss.now c.args.number c.args.plan c.args.pattern.now c.args.table.now c.args.witness.now _ c.long_enough-long.ensures _ _ c.begin.ensures c.in-Err.r (ap number_in c.in-Err.is); numbered = positive c.in-Err.r }

pub enter_in-requires : goal.enter_in-requires
enter_in-requires c = (given c.args.ss.now c.args.table.now c.args.witness.now _ c.long_enough-long.ensures _ _ c.in_default.ensures refl, omega arith, omega arith, omega arith)

pub enter_in-requires-2 : goal.enter_in-requires-2
enter_in-requires-2 c = (given_again c.args.ss.now c.args.number c.args.plan c.args.pattern.now c.args.table.now c.args.witness.now _ c.long_enough-long.ensures _ _ c.in_default.ensures refl _ _ _ _ c.enter_in.ensures c.in_default-enter_in.is, omega arith, omega arith, omega arith)

pub returns-in-Some : goal.returns-in-Some
returns-in-Some c = let q = entered_first c.args.ss.now c.args.number c.args.plan c.args.pattern.now c.args.table.now c.args.witness.now _ c.long_enough-long.ensures _ _ c.in_default.ensures refl _ _ _ _ c.enter_in.ensures _ c.in-Some.is in record { enter = q.0; numbered = q.1 }

pub unwrap-requires : goal.unwrap-requires
unwrap-requires c = let g = given_again c.args.ss.now c.args.number c.args.plan c.args.pattern.now c.args.table.now c.args.witness.now _ c.long_enough-long.ensures _ _ c.in_default.ensures refl _ _ _ _ c.enter_in.ensures c.in_default-enter_in.is in always g.load.known.sig c.args.number c.args.plan c.args.pattern.now c.enter_in.new.table c.enter_in.new.witness c.enter_in-2.result c.enter_in-2.new.table c.enter_in-2.new.witness (c.enter_in-2.ensures g)

pub returns : goal.returns
returns c = let q = entered_then c.args.ss.now c.args.number c.args.plan c.args.pattern.now c.args.table.now c.args.witness.now _ c.long_enough-long.ensures _ _ c.in_default.ensures refl _ _ _ _ c.enter_in.ensures c.in_default-enter_in.is _ _ _ _ _ c.enter_in-2.ensures c.unwrap.ensures in record { enter = q.0; numbered = q.1 }
