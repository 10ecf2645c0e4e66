-- The first digits, then the last.
use native.Mathlib.Omega.{arith}
use Rattle.printing.proofs.Decimal.{digit_room, digit_put, first_room, last_room, last_put}
use Rattle.printing.proofs.put.+put_number.Goals as goal

pub overflow_cast-out : goal.overflow_cast-out
overflow_cast-out t c = omega arith

pub overflow_add-out : goal.overflow_add-out
overflow_add-out t c = omega arith

pub bounds-out-at : goal.bounds-out-at
bounds-out-at t c = digit_room c.args.at c.args.n c.args.out.now c.requires c.if-n-lt10.true

pub overflow_add-result : goal.overflow_add-result
overflow_add-result t c = omega (arith, digit_room c.args.at c.args.n c.args.out.now c.requires c.if-n-lt10.true)

pub returns-then-n-lt10 : goal.returns-then-n-lt10
returns-then-n-lt10 t c = digit_put c.args.at c.args.n c.args.out.now c.requires c.if-n-lt10.true

pub put_number-last-requires : goal.put_number-last-requires
put_number-last-requires t c = (omega arith, (let z = first_room c.args.at c.args.n c.args.out.now c.requires c.if-n-lt10.false (omega arith) in omega arith))

pub bounds-out-last : goal.bounds-out-last
bounds-out-last t c = last_room c.args.at c.args.n c.args.out.now c.requires c.if-n-lt10.false (omega arith) c.put_number-last.result c.put_number-last.new.out c.put_number-last.ensures c.put_number-last.auto.out

pub overflow_add-result-2 : goal.overflow_add-result-2
overflow_add-result-2 t c = omega (arith, last_room c.args.at c.args.n c.args.out.now c.requires c.if-n-lt10.false (omega arith) c.put_number-last.result c.put_number-last.new.out c.put_number-last.ensures c.put_number-last.auto.out, c.put_number-last.auto.out)

pub returns : goal.returns
returns t c = last_put c.args.at c.args.n c.args.out.now c.requires c.if-n-lt10.false (omega arith) c.put_number-last.result c.put_number-last.new.out c.put_number-last.ensures c.put_number-last.auto.out
