use mathlib.Core.Path.{◌≡◌}
use lib.ListN.{length}
use Rattle.indexing.specs.Indexing.{GivenRules}
use Rattle.indexing.proofs.RulesLaws.{Mid}
use Rattle.indexing.proofs.rules.index_rows.Given as goal

abbrev pub invariant-loop-i : goal.invariant-loop-i
invariant-loop-i l = (length l.rows ≡ length l.initial.rows) × ((g : GivenRules l.t l.table l.lists (length l.initial.rows)) → Mid g l.at l.from l.r l._i l.rows)
