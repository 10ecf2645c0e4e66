use Prim.Native.Nat.{◌≤◌, ◌-◌}
use lib.ListN.{length}
use Rattle.pattern.specs.Given.{Opens}
use Rattle.pattern.specs.Side.{plus, minus}
use Rattle.weighing.specs.Weighing.{over_weight}
use Rattle.weighing.proofs.WeightSteps.{Left}
use Rattle.weighing.proofs.weight.+weigh_minus_weigh_plus.Given as goal

abbrev pub decreases-weigh_minus : goal.decreases-weigh_minus
decreases-weigh_minus l = length l.p.now

abbrev pub invariant-weigh_minus-loop-i : goal.invariant-weigh_minus-loop-i
invariant-weigh_minus-loop-i l = (1 ≤ l.at) × (l.at ≤ length l.p) × (l.n ≤ over_weight) × ((g : Opens l.t l.p) → Left minus l.t l.p g.pattern l.times l.n l.at (l.count - l._i))

abbrev pub decreases-weigh_plus : goal.decreases-weigh_plus
decreases-weigh_plus l = length l.p.now

abbrev pub invariant-weigh_plus-loop-i : goal.invariant-weigh_plus-loop-i
invariant-weigh_plus-loop-i l = (1 ≤ l.at) × (l.at ≤ length l.p) × (l.n ≤ over_weight) × ((g : Opens l.t l.p) → Left plus l.t l.p g.pattern l.times l.n l.at (l.count - l._i))
