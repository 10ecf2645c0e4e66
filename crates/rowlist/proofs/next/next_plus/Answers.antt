use native.Mathlib.Omega.{arith}
use lib.ListN.{length-set}
use Rattle.rowlist.proofs.OneMore.{product_fits, next_grow, next_none, next_each}
use Rattle.rowlist.proofs.next.next_plus.Goals as goal

pub overflow_mul-m : goal.overflow_mul-m
overflow_mul-m c = let g = c.requires in omega (arith, product_fits g c.count-m.result c.count-n.result (c.count-m.ensures g.left) (c.count-n.ensures g.right))

pub shape_of-out-then-m-n : goal.shape_of-out-then-m-n
shape_of-out-then-m-n c = simp length-set

pub returns-then-m-n : goal.returns-then-m-n
returns-then-m-n c = λ g. next_none g c.count-m.result c.count-n.result c.args.out.now (c.count-m.ensures g.left) (c.count-n.ensures g.right) c.if-m-n.true (omega (arith, g.room))

pub append_each-requires : goal.append_each-requires
append_each-requires c = let g = c.requires in next_grow g c.count-m.result c.count-n.result (c.count-m.ensures g.left) (c.count-n.ensures g.right) c.if-m-n.false

pub returns : goal.returns
returns c = λ g. next_each g c.count-m.result c.count-n.result c.append_each.result c.append_each.new.out (c.count-m.ensures g.left) (c.count-n.ensures g.right) c.if-m-n.false c.append_each.ensures
