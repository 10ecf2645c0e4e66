use mathlib.Core.Path.{refl, ◌∙◌}
use native.Mathlib.Omega.{arith}
use lib.ListN.{length-set}
use Rattle.decoding.proofs.Fewest.{kind_fit, lowest_same, greatest_least}
use Rattle.decoding.proofs.Tables.{kinds_noted}
use Rattle.decoding.proofs.decode.note_kinds.Goals as goal

pub least_sizes-requires : goal.least_sizes-requires
least_sizes-requires c = let h = c.requires in (h.fit.long, h.few, kind_fit _ _ _ h, refl)

pub lowest_heads-requires : goal.lowest_heads-requires
lowest_heads-requires c = let h = c.requires in (h.fit.long, h.few, kind_fit _ _ _ h, c.least_sizes.ensures.sizes, refl)

pub bounds-t : goal.bounds-t
bounds-t c = rw length-set (omega (arith, c.note_least.ensures.long))

pub returns : goal.returns
returns c = let a = c.args in let h = c.requires in kinds_noted a.t.now a.n a.kinds _ _ _ c.all_small.result h.fit.long h.few (greatest_least _ _ _ h _ c.least_sizes.ensures) (λ k l. c.lowest_heads.ensures k l ∙ lowest_same _ _ _ h _ k l) c.note_least.ensures c.all_small.ensures
