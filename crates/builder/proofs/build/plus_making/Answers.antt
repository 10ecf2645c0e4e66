use mathlib.Core.Path.{ap}
use native.Mathlib.Omega.{arith}
use Rattle.sets.proofs.ListSets.{only_one}
use Rattle.builder.specs.declared.build.Making.TheVariants.{One}
use Rattle.builder.proofs.build.plus_making.Goals as goal

pub only-requires : goal.only-requires
only-requires c = let h = rw c.in-Var.is at c.requires in omega arith

pub returns-in-Head : goal.returns-in-Head
returns-in-Head c = rw c.in-Head.is

pub returns-in-Var : goal.returns-in-Var
returns-in-Var c = rw c.in-Var.is (ap One (only_one 0 c.in-Var.x _ _ (omega arith) c.only.ensures))
