use mathlib.Core.Path.{refl, ◌∙◌}
use native.Mathlib.Omega.{arith}
use Rattle.sets.specs.Heads.{number_of}
use lib.ListN.{length-set}
use Rattle.rowlist.proofs.OneMore.{first_word, wild_given, first_given, minus_end, minus_made}
use Rattle.cell.proofs.Walk.{back_length}
use Rattle.rowlist.proofs.next.next_minus.Goals as goal

pub slice_bounds-put-end : goal.slice_bounds-put-end
slice_bounds-put-end c = refl

pub put-requires : goal.put-requires
put-requires c = (omega arith, omega (arith, c.ranges.tag.fits))

pub append_each-n-requires : goal.append_each-n-requires
append_each-n-requires c = wild_given c.args.tag (number_of c.args.full) c.put.new.out c.put.ensures c.args.out.now c.requires

pub bounds-lists-0 : goal.bounds-lists-0
bounds-lists-0 c = omega (arith, (first_word c.args.tag (number_of c.args.full) c.put.new.out c.put.ensures c.args.out.now c.requires).1)

pub slice_bounds-append_all-count : goal.slice_bounds-append_all-count
slice_bounds-append_all-count c = omega (arith, (first_word c.args.tag (number_of c.args.full) c.put.new.out c.put.ensures c.args.out.now c.requires).1)

pub slice_bounds-append_all-start : goal.slice_bounds-append_all-start
slice_bounds-append_all-start c = omega (arith, (first_word c.args.tag (number_of c.args.full) c.put.new.out c.put.ensures c.args.out.now c.requires).1)

pub offset_bounds-out-n : goal.offset_bounds-out-n
offset_bounds-out-n c = omega (arith, (first_given c.args.tag (number_of c.args.full) c.put.new.out c.put.ensures c.args.out.now c.requires c.append_each-n.result c.append_each-n.new.out c.append_each-n.auto.out c.append_each-n.ensures _ refl).0, c.append_each-n.auto.out)

pub slice_bounds-append_all-count-3 : goal.slice_bounds-append_all-count-3
slice_bounds-append_all-count-3 c = omega (arith, (first_given c.args.tag (number_of c.args.full) c.put.new.out c.put.ensures c.args.out.now c.requires c.append_each-n.result c.append_each-n.new.out c.append_each-n.auto.out c.append_each-n.ensures _ refl).0)

pub slice_bounds-append_all-start-3 : goal.slice_bounds-append_all-start-3
slice_bounds-append_all-start-3 c = omega (arith, (first_given c.args.tag (number_of c.args.full) c.put.new.out c.put.ensures c.args.out.now c.requires c.append_each-n.result c.append_each-n.new.out c.append_each-n.auto.out c.append_each-n.ensures _ refl).0)

pub append_all-m-requires : goal.append_all-m-requires
append_all-m-requires c = (first_given c.args.tag (number_of c.args.full) c.put.new.out c.put.ensures c.args.out.now c.requires c.append_each-n.result c.append_each-n.new.out c.append_each-n.auto.out c.append_each-n.ensures _ refl).1

pub overflow_add-end : goal.overflow_add-end
overflow_add-end c = omega (arith, minus_end c.args.tag (number_of c.args.full) c.put.new.out c.put.ensures c.args.out.now c.requires c.append_each-n.result c.append_each-n.new.out c.append_each-n.auto.out c.append_each-n.ensures c.append_all-m.result _ c.append_all-m.new.out refl c.append_all-m.auto.out c.append_all-m.ensures, back_length c.append_each-n.new.out c.append_all-m.new.out c.append_each-n.result (first_given c.args.tag (number_of c.args.full) c.put.new.out c.put.ensures c.args.out.now c.requires c.append_each-n.result c.append_each-n.new.out c.append_each-n.auto.out c.append_each-n.ensures _ refl).0 c.append_all-m.auto.out, c.append_each-n.auto.out)

pub offset_bounds-out-end : goal.offset_bounds-out-end
offset_bounds-out-end c = omega (arith, minus_end c.args.tag (number_of c.args.full) c.put.new.out c.put.ensures c.args.out.now c.requires c.append_each-n.result c.append_each-n.new.out c.append_each-n.auto.out c.append_each-n.ensures c.append_all-m.result _ c.append_all-m.new.out refl c.append_all-m.auto.out c.append_all-m.ensures, back_length c.append_each-n.new.out c.append_all-m.new.out c.append_each-n.result (first_given c.args.tag (number_of c.args.full) c.put.new.out c.put.ensures c.args.out.now c.requires c.append_each-n.result c.append_each-n.new.out c.append_each-n.auto.out c.append_each-n.ensures _ refl).0 c.append_all-m.auto.out, c.append_each-n.auto.out)

pub bounds-out-end : goal.bounds-out-end
bounds-out-end c = omega (arith, minus_end c.args.tag (number_of c.args.full) c.put.new.out c.put.ensures c.args.out.now c.requires c.append_each-n.result c.append_each-n.new.out c.append_each-n.auto.out c.append_each-n.ensures c.append_all-m.result _ c.append_all-m.new.out refl c.append_all-m.auto.out c.append_all-m.ensures)

pub shape_of-out : goal.shape_of-out
shape_of-out c = simp length-set (back_length c.append_each-n.new.out c.append_all-m.new.out c.append_each-n.result (first_given c.args.tag (number_of c.args.full) c.put.new.out c.put.ensures c.args.out.now c.requires c.append_each-n.result c.append_each-n.new.out c.append_each-n.auto.out c.append_each-n.ensures _ refl).0 c.append_all-m.auto.out ∙ c.append_each-n.auto.out)

pub returns : goal.returns
returns c = λ g. minus_made c.args.tag (number_of c.args.full) c.put.new.out c.put.ensures c.args.out.now g c.append_each-n.result c.append_each-n.new.out c.append_each-n.auto.out c.append_each-n.ensures c.append_all-m.result _ c.append_all-m.new.out refl c.append_all-m.auto.out c.append_all-m.ensures
