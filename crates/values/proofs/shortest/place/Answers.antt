use mathlib.Core.Path.{◌≡◌, refl}
use mathlib.Core.List.{List, [], ◌∷◌}
use Prim.Native.Nat.{ℕ, ◌≤◌}
use native.Mathlib.Omega.{arith}
use lib.ListN.{length, set, drop}
use Rattle.values.proofs.Choosing.{heads_given, head_given, placed}
use Rattle.values.proofs.shortest.place.Goals as goal

first_set : (o : List ℕ) (c : ℕ) → 1 ≤ length o → set o 0 c ≡ c ∷ drop 1 o
first_set [] c h = absurd (omega arith)
first_set (x ∷ o) c h = refl

pub shortest_head-c-requires : goal.shortest_head-c-requires
shortest_head-c-requires c = heads_given (c.requires.1 c.if-tag-lt-KIND_TAG.false)

pub with_least-requires : goal.with_least-requires
with_least-requires c = head_given (c.requires.1 c.if-tag-lt-KIND_TAG.false) c.shortest_head-c.result c.shortest_head-c.ensures

pub returns : goal.returns
returns c = record { named = λ l. absurd (omega (arith, l, c.if-tag-lt-KIND_TAG.false)); unnamed = λ l g. placed g c.shortest_head-c.result c.shortest_head-c.ensures c.with_least.result c.with_least.new.out c.with_least.ensures }
