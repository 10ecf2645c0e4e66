use mathlib.Core.Bool.{cond}
use mathlib.Core.Path.{ap, ◌∙◌}
use Prim.Native.Nat.{ℕ}
use lib.Dec.{ltb}
use Rattle.builder.proofs.build.full_of.Goals as goal

pub returns : goal.returns
returns c = λ j. c.full.ensures j ∙ ap (λ (n : ℕ). cond (ltb j n) 1 0) c.count_of.ensures
