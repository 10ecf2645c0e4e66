use mathlib.Core.Path.{◌≡◌}
use Prim.Native.Nat.{◌-◌, ◌≤◌, ◌<◌}
use lib.ListN.{length}
use Rattle.cell.proofs.Walk.{Now}
use Rattle.rowlist.specs.Product.{GivenEach}
use Rattle.rowlist.proofs.Products.{each_task}
use Rattle.products.proofs.product.one_by_all.Given as goal

abbrev pub invariant-loop-at : goal.invariant-loop-at
invariant-loop-at l = (l.at < length l.y) × (l.used ≤ length l.out) × (length l.out ≡ length l.initial.out) × ((g : GivenEach l.t l.x l.y l.initial.out) → Now (each_task g) l.at l.used l.out)

abbrev pub decreases-loop-at : goal.decreases-loop-at
decreases-loop-at l = length l.y - l.at
