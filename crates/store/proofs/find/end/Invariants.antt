use Prim.Native.Nat.{◌-◌, ◌≤◌}
use mathlib.Core.List.{List}
use lib.ListN.{length}
use Rattle.table.specs.Limits.{limits, table_length}
use Rattle.table.specs.Rule.{Rule}
use Rattle.store.specs.Laid.{Holds}
use Rattle.store.proofs.FindFacts.{Now}
use Rattle.store.proofs.find.end.Given as goal

abbrev pub invariant-loop-i : goal.invariant-loop-i
invariant-loop-i l = (l.at ≤ (table_length limits)) × (table_length limits ≤ length l.table) × ((rs : List Rule) → Holds limits l.table rs → Now rs l.i l.at)
