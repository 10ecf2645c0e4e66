use Prim.Native.Nat.{◌-◌}
use native.Mathlib.Omega.{arith}
use lib.ListN.{length-set}
use Rattle.booking.proofs.Laid.{opens_none, opens}
use Rattle.booking.proofs.walk.open.Goals as goal

pub returns-then-m-eq0 : goal.returns-then-m-eq0
returns-then-m-eq0 c = opens_none c.args.words.now c.args.at c.args.p c.args.m c.args.deep c.if-m-eq0.true c.requires.1

pub bounds-words-at-2 : goal.bounds-words-at-2
bounds-words-at-2 c = omega (arith, length-set c.args.words.now (c.args.at - 2) c.args.p)

pub returns : goal.returns
returns c = opens c.args.words.now c.args.at c.args.p c.args.m c.args.deep c.if-m-eq0.false c.requires.0 c.requires.1
