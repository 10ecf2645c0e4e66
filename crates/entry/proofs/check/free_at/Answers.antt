use native.Mathlib.Omega.{arith}
use Rattle.entry.proofs.Checks.{too_low, too_high, was_held, free_there}
use Rattle.entry.proofs.check.free_at.Goals as goal

pub returns-then-number-lt1 : goal.returns-then-number-lt1
returns-then-number-lt1 c = λ rs h. too_low c.args.number rs (omega (arith, c.if-number-lt1.true))

pub returns-then-number-gt-LAST_NUMBER : goal.returns-then-number-gt-LAST_NUMBER
returns-then-number-gt-LAST_NUMBER c = λ rs h. too_high c.args.number rs (omega (arith, c.if-number-gt-LAST_NUMBER.true))

pub returns-in-Ok : goal.returns-in-Ok
returns-in-Ok c = λ rs h. was_held c.args.number rs (omega (arith, c.if-number-lt1.false)) (omega (arith, c.if-number-gt-LAST_NUMBER.false)) _ (c.find.ensures rs h) _ c.in-Ok.is

pub returns-in-Err : goal.returns-in-Err
returns-in-Err c = λ rs h. free_there c.args.number rs (omega (arith, c.if-number-lt1.false)) (omega (arith, c.if-number-gt-LAST_NUMBER.false)) _ (c.find.ensures rs h) _ c.in-Err.is
