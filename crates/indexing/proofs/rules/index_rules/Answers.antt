use native.Mathlib.Omega.{arith}
use Rattle.indexing.proofs.RulesLaws.{long, with_default}
use Rattle.indexing.proofs.rules.index_rules.Goals as goal

pub bounds-table-1 : goal.bounds-table-1
bounds-table-1 c = omega (arith, long c.requires)

pub bounds-rows-18432 : goal.bounds-rows-18432
bounds-rows-18432 c = omega (arith, c.requires.room_is, c.index_rows-n.auto.rows)

pub returns : goal.returns
returns c = λ g. with_default g _ _ c.index_rows-n.auto.rows (c.index_rows-n.ensures g)
