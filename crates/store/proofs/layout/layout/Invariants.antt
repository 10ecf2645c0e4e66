use mathlib.Core.Path.{◌≡◌}
use Prim.Native.Nat.{◌-◌, ◌≤◌}
use Rattle.signature.specs.Lists.{is_some}
use Rattle.table.specs.Limits.{limits, table_length}
use Rattle.table.specs.Sound.{read_rules}
use Rattle.store.specs.Head.{from}
use Rattle.store.specs.Laid.{laid}
use Rattle.store.proofs.layout.layout.Given as goal

abbrev pub invariant-loop-i : goal.invariant-loop-i
invariant-loop-i l = (l.at ≤ (table_length limits)) × (is_some (laid limits l.table) ≡ is_some (read_rules (l.n - l.i) l.last (from l.table l.at)))
