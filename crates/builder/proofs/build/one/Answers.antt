use mathlib.Core.Path.{◌∙◌, sym, subst}
use mathlib.Core.List.{List, ◌∷◌}
use Prim.Native.Nat.{ℕ}
use native.Mathlib.Omega.{arith}
use lib.ListN.{length-set, set}
use Rattle.sets.specs.Heads.{number_of}
use Rattle.cell.specs.Cell.{cell_code}
use Rattle.rowlist.specs.Product.{Product}
use Rattle.builder.proofs.Building.{one_list}
use Rattle.builder.proofs.build.one.Goals as goal

pub put-requires : goal.put-requires
put-requires c = (simp length-set (omega arith), c.requires.1)

pub shape_of-out : goal.shape_of-out
shape_of-out c = simp length-set (c.put.auto.out ∙ simp length-set)

pub returns : goal.returns
returns c = subst (λ (o : List ℕ). Product (3 ∷ cell_code c.args.tag c.args.vars (number_of c.args.allowed)) 4 (set o 4 0)) (sym c.put.ensures) (one_list c.args.tag c.args.vars c.args.allowed c.args.out.now c.requires.0)
