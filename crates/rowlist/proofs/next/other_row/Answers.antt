use mathlib.Core.Path.{refl, ◌∙◌, sym, subst}
use mathlib.Core.List.{List}
use Prim.Native.Nat.{ℕ}
use native.Mathlib.Omega.{arith}
use lib.ListN.{length-set}
use Rattle.sets.specs.Heads.{number_of}
use Rattle.sets.proofs.HeadSets.{empty_is, some_is}
use Rattle.cell.specs.RowList.{WrittenFirst}
use Rattle.rowlist.specs.Next.{others_code}
use Rattle.rowlist.proofs.Others.{no_other, some_other}
use Rattle.rowlist.proofs.next.other_row.Goals as goal

pub returns-then-is_empty : goal.returns-then-is_empty
returns-then-is_empty c = no_other c.args.tag (number_of c.args.rest) c.args.out.now (empty_is _ c.is_empty.ensures c.if-is_empty.true)

pub bounds-out-0 : goal.bounds-out-0
bounds-out-0 c = omega (arith, c.requires)

pub put-requires : goal.put-requires
put-requires c = (simp length-set (omega (arith, c.requires)), omega (arith, c.ranges.tag.fits))

pub shape_of-out : goal.shape_of-out
shape_of-out c = c.put.auto.out ∙ simp length-set refl

pub returns : goal.returns
returns c = subst (λ (o : List ℕ). WrittenFirst (others_code c.args.tag (number_of c.args.rest)) 4 o) (sym c.put.ensures) (some_other c.args.tag c.args.rest c.args.out.now (some_is _ c.is_empty.ensures c.if-is_empty.false) c.requires)
