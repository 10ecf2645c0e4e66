use mathlib.Core.Path.{◌∙◌}
use native.Mathlib.Omega.{arith}
use lib.ListN.{length-set}
use Rattle.rowlist.proofs.Growing.{append_given, appended}
use Rattle.rowlist.proofs.grow.append.Goals as goal

pub copy-requires : goal.copy-requires
copy-requires c = let g = c.requires in ((append_given g).0, omega (arith, (append_given g).2))

pub copy-requires-2 : goal.copy-requires-2
copy-requires-2 c = let g = c.requires in ((append_given g).1, omega (arith, (append_given g).2, c.copy.auto.out))

pub shape_of-out : goal.shape_of-out
shape_of-out c = simp length-set (c.copy-2.auto.out ∙ c.copy.auto.out)

pub returns : goal.returns
returns c = λ g. appended c.args.out.now c.copy.new.out c.copy-2.new.out g c.copy.ensures c.copy-2.ensures (c.copy-2.auto.out ∙ c.copy.auto.out)
