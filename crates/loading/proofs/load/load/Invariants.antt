use mathlib.Core.Path.{◌≡◌}
use mathlib.Core.List.{List}
use Prim.Native.Nat.{◌-◌}
use lib.ListN.{length}
use Rattle.table.specs.Limits.{limits}
use Rattle.table.specs.Rule.{Rule}
use Rattle.store.specs.Laid.{Holds}
use Rattle.loading.specs.Load.{GivenLoad}
use Rattle.loading.proofs.Loads.{Mid}
use Rattle.loading.proofs.load.load.Given as goal

abbrev pub invariant-loop-i : goal.invariant-loop-i
invariant-loop-i l = (length l.rows ≡ length l.initial.rows) × (length l.work ≡ length l.initial.work) × ((g : GivenLoad l.t l.table) (rs : List Rule) (h : Holds limits l.table rs) → Mid g rs h l.at l.used l.total l.i l.rows)
