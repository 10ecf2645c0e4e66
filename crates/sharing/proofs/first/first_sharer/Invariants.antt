use mathlib.Core.Path.{◌≡◌}
use Prim.Native.Nat.{◌-◌}
use lib.ListN.{length}
use Rattle.sharing.specs.Sharer.{GivenSharer}
use Rattle.sharing.proofs.Sharers.{Mid}
use Rattle.sharing.proofs.first.first_sharer.Given as goal

abbrev pub invariant-loop-i : goal.invariant-loop-i
invariant-loop-i l = (l.out ≡ l.initial.out) × ((g : GivenSharer l.t l.table l.rows l.at (length l.initial.out)) → Mid g l.low l.place l.from l.past l.i)
