use mathlib.Core.Path.{ap}
use Prim.Native.Nat.{ℕ, ◌+◌}
use native.Mathlib.Omega.{arith}
use Rattle.overlap.proofs.LeastFacts.{word_here}
use Rattle.overlap.proofs.PlaceFacts.{some_allowed, head_given, placed}
use Rattle.overlap.proofs.least.lowest_value.Goals as goal

pub lowest-requires : goal.lowest-requires
lowest-requires c = some_allowed c.requires

pub overflow_add-c : goal.overflow_add-c
overflow_add-c c = let g = c.requires in omega (arith, word_here (head_given g (c.first_of.result + c.lowest.result) c.lowest.result c.lowest.ensures (ap (λ (n : ℕ). n + c.lowest.result) c.first_of.ensures)))

pub with_least-requires : goal.with_least-requires
with_least-requires c = head_given c.requires (c.first_of.result + c.lowest.result) c.lowest.result c.lowest.ensures (ap (λ (n : ℕ). n + c.lowest.result) c.first_of.ensures)

pub returns : goal.returns
returns c = λ g. placed g (c.first_of.result + c.lowest.result) c.lowest.result c.lowest.ensures (ap (λ (n : ℕ). n + c.lowest.result) c.first_of.ensures) c.with_least.result c.with_least.new.out c.with_least.ensures
