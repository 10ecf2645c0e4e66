use mathlib.Core.Path.{◌≡◌}
use Prim.Native.Nat.{◌≤◌, ◌-◌}
use lib.ListN.{length}
use Rattle.pattern.specs.Word.{form_of}
use Rattle.builder.specs.Build.{GivenPart}
use Rattle.ambiguity.proofs.Turns.{Left}
use Rattle.ambiguity.proofs.ambiguous.+ambiguous_at.Given as goal

abbrev pub decreases-ambiguous_at : goal.decreases-ambiguous_at
decreases-ambiguous_at l = length l.p.now

abbrev pub invariant-loop-i : goal.invariant-loop-i
invariant-loop-i l = (l.i ≤ l.count) × (1 ≤ l.at) × (l.at ≤ length l.p) × (length l.out ≡ length l.initial.out) × (length l.work ≡ length l.initial.work) × ((g : GivenPart l.t l.k l.p l.plus (length l.initial.out) (length l.initial.work)) → Left g (form_of l.w) l.side l.vars l.at (l.count - l.i) l.i)
