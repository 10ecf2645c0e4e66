use native.Mathlib.Omega.{arith}
use Rattle.signature.proofs.Tests.{leb_yes, leb_no}
use Rattle.booking.proofs.walk.is_head.Goals as goal

pub returns-then-w-first : goal.returns-then-w-first
returns-then-w-first c = rw (leb_no c.args.first c.args.w c.if-w-first.true)

pub returns : goal.returns
returns c = rw (leb_yes c.args.first c.args.w (omega arith))
