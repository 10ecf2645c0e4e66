use native.Mathlib.Omega.{arith}
use Rattle.emptying.proofs.Empties.{not_emptied, emptied}
use Rattle.emptying.proofs.empty.empty.Goals as goal

pub returns-then-table-lt-TABLE : goal.returns-then-table-lt-TABLE
returns-then-table-lt-TABLE c = let z = not_emptied c.args.table.now (omega (arith, c.if-table-lt-TABLE.true)) in record { number_is = z.number_is; table_is = z.table_is }

pub returns : goal.returns
returns c = let z = emptied c.args.table.now (omega (arith, c.if-table-lt-TABLE.false)) c.clear.new.table c.clear.ensures in record { number_is = z.number_is; table_is = z.table_is }
