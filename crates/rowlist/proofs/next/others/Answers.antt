use native.Mathlib.Omega.{arith}
use Rattle.sets.specs.Heads.{number_of}
use Rattle.rowlist.proofs.Others.{others_fit, skip_fits, left_fits, others_made}
use Rattle.rowlist.proofs.next.others.Goals as goal

pub copy-requires : goal.copy-requires
copy-requires c = ((others_fit c.requires).0, omega (arith, (others_fit c.requires).1))

pub overflow_add-skip : goal.overflow_add-skip
overflow_add-skip c = omega (arith, (skip_fits c.requires c.copy.new.out c.copy.ensures).0)

pub overflow_sub-left : goal.overflow_sub-left
overflow_sub-left c = omega (arith, (skip_fits c.requires c.copy.new.out c.copy.ensures).0)

pub other_row-n-requires : goal.other_row-n-requires
other_row-n-requires c = omega (arith, skip_fits c.requires c.copy.new.out c.copy.ensures, (others_fit c.requires).0)

pub offset_bounds-work-skip : goal.offset_bounds-work-skip
offset_bounds-work-skip c = omega (arith, (skip_fits c.requires c.copy.new.out c.copy.ensures).1, c.copy.auto.out, c.well_formed)

pub slice_bounds-copy-count : goal.slice_bounds-copy-count
slice_bounds-copy-count c = omega (arith, (skip_fits c.requires c.copy.new.out c.copy.ensures).1)

pub slice_bounds-copy-start : goal.slice_bounds-copy-start
slice_bounds-copy-start c = omega (arith, (skip_fits c.requires c.copy.new.out c.copy.ensures).1)

pub copy-requires-2 : goal.copy-requires-2
copy-requires-2 c = ((left_fits c.requires c.copy.new.out c.copy.ensures c.args.tag (number_of c.args.rest) c.other_row-n.result c.other_row-n.ensures.0).0, omega (arith, (left_fits c.requires c.copy.new.out c.copy.ensures c.args.tag (number_of c.args.rest) c.other_row-n.result c.other_row-n.ensures.0).1, c.other_row-n.auto.out))

pub overflow_add-result : goal.overflow_add-result
overflow_add-result c = omega (arith, (left_fits c.requires c.copy.new.out c.copy.ensures c.args.tag (number_of c.args.rest) c.other_row-n.result c.other_row-n.ensures.0).1, c.well_formed)

pub overflow_sub-result : goal.overflow_sub-result
overflow_sub-result c = omega (arith, (left_fits c.requires c.copy.new.out c.copy.ensures c.args.tag (number_of c.args.rest) c.other_row-n.result c.other_row-n.ensures.0).2)

pub returns : goal.returns
returns c = λ g. others_made g c.copy.new.out c.copy.ensures c.args.tag (number_of c.args.rest) c.other_row-n.result c.other_row-n.new.out c.copy-2.new.out c.other_row-n.ensures c.copy-2.ensures
