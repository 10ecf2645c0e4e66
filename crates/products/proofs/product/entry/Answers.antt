use mathlib.Core.List.{[]}
use Prim.Native.Nat.{◌≤◌}
use native.Mathlib.Omega.{arith}
use Rattle.cell.specs.Coded.{row_code_of}
use lib.ListN.{length, length-take, length-drop}
use Rattle.row.specs.Row.{combine}
use Rattle.cell.proofs.RowListFacts.{given_tail, entry_none, entry_some, kept_le}
use Rattle.products.proofs.product.entry.Goals as goal

pub combine-requires : goal.combine-requires
unfolding given_tail
combine-requires c = given_tail c.requires

pub returns-in_default : goal.returns-in_default
unfolding given_tail
returns-in_default c = λ g. entry_none g.K g.kind (combine g.r g.s) _ _ _ [] (c.combine.ensures (given_tail g)) c.in_default.is

pub overflow_add-result : goal.overflow_add-result
unfolding given_tail
overflow_add-result c = let g = c.requires in let k : c.in-Some.n ≤ length c.combine.new.out = kept_le (row_code_of g.K g.kind (combine g.r g.s)) _ _ _ c.combine.new.out (c.combine.ensures (given_tail g)) c.in-Some.is in omega (arith, simp (length-take, length-drop) at c.combine.auto.out, g.room)

pub returns : goal.returns
unfolding given_tail
returns c = λ g. entry_some g.K g.kind (combine g.r g.s) _ _ _ _ _ c.args.out.now (c.combine.ensures (given_tail g)) c.in-Some.is (omega (arith, g.room))
