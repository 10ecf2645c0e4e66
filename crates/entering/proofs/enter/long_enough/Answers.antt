use mathlib.Core.Path.{refl, ◌∙◌}
use native.Mathlib.Omega.{arith}
use lib.ListN.{length}
use Rattle.signature.proofs.Tests.{leb_no}
use Rattle.table.specs.Limits.{limits, table_length}
use Rattle.entering.proofs.Enters.{long_is, short_is}
use Rattle.entering.proofs.enter.long_enough.Goals as goal

pub returns-then-table-ge-TABLE : goal.returns-then-table-ge-TABLE
returns-then-table-ge-TABLE c = long_is c.args.table.now c.args.witness.now (omega (arith, c.if-table-ge-TABLE.true)) _ refl

pub returns-else-table-ge-TABLE : goal.returns-else-table-ge-TABLE
returns-else-table-ge-TABLE c = leb_no (table_length limits) (length c.args.table.now) (omega (arith, c.if-table-ge-TABLE.false)) ∙ short_is c.args.table.now c.args.witness.now (omega (arith, c.if-table-ge-TABLE.false))
