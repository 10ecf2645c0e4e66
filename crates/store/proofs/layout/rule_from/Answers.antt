use Prim.Native.Nat.{◌+◌}
use native.Mathlib.Omega.{arith}
use Rattle.store.proofs.Reading.{no_room, falls, high, cut, on}
use Rattle.store.proofs.layout.rule_from.Goals as goal

pub returns-then-at-lt-RULE_HEAD : goal.returns-then-at-lt-RULE_HEAD
returns-then-at-lt-RULE_HEAD c = λ n. no_room c.args.table.now c.requires.0 c.args.at c.args.last n c.requires.1 c.if-at-lt-RULE_HEAD.true

pub returns-then-number-last : goal.returns-then-number-last
returns-then-number-last c = λ n. falls c.args.table.now c.requires.0 c.args.at c.args.last n (omega arith) c.if-number-last.true

pub returns-then-number-gt-LAST_NUMBER : goal.returns-then-number-gt-LAST_NUMBER
returns-then-number-gt-LAST_NUMBER c = λ n. high c.args.table.now c.requires.0 c.args.at c.args.last n (omega arith) c.if-number-gt-LAST_NUMBER.true

pub overflow_cast-len : goal.overflow_cast-len
overflow_cast-len c = omega (arith, c.shared_slice_known-2-1.given (c.args.at + 2))

pub returns-then-from-len : goal.returns-then-from-len
returns-then-from-len c = λ n. cut c.args.table.now c.requires.0 c.args.at c.args.last n (omega arith) c.if-from-len.true

pub returns : goal.returns
returns c = (omega arith, omega arith, λ n. on c.args.table.now c.requires.0 c.args.at c.args.last n (omega arith) c.if-number-last.false c.if-number-gt-LAST_NUMBER.false c.if-from-len.false)
