use mathlib.Core.Path.{◌≡◌}
use Prim.Native.Nat.{◌≤◌, ◌-◌}
use lib.ListN.{length}
use Rattle.table.specs.Limits.{witness_length}
use Rattle.text.specs.Limits.{list_limit}
use Rattle.answering.specs.Ready.{Ready}
use Rattle.answering.proofs.rules.enter_rules.Given as goal

abbrev pub invariant-loop-space : goal.invariant-loop-space
invariant-loop-space l = Ready l.text l.at l.ss l.table × (list_limit ≤ length l.space) × (witness_length ≤ length l.witness) × (length l.table ≡ length l.initial.table) × (length l.space ≡ length l.initial.space) × (length l.witness ≡ length l.initial.witness) × (l.out ≡ l.initial.out)

abbrev pub decreases-loop-space : goal.decreases-loop-space
decreases-loop-space l = length l.text - l.at
