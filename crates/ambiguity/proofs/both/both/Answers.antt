use mathlib.Core.Path.{refl}
use native.Mathlib.Omega.{arith}
use Rattle.sets.specs.Heads.{number_of}
use Rattle.ambiguity.proofs.Two.{kind_small, few_of_kind, full_so, first_given, first_bounds, second_given, two_lists, answered}
use Rattle.ambiguity.proofs.both.both.Goals as goal

pub count_of-requires : goal.count_of-requires
count_of-requires c = (c.requires.known.decoded.long, kind_small c.requires)

pub full-set-requires : goal.full-set-requires
full-set-requires c = omega (arith, c.count_of.ensures, few_of_kind c.requires)

pub overflow_add-tag : goal.overflow_add-tag
overflow_add-tag c = omega (arith, kind_small c.requires)

pub rows-a-requires : goal.rows-a-requires
rows-a-requires c = first_given c.requires (number_of c.full-set.result) (full_so c.args.t.now c.args.k (number_of c.full-set.result) c.count_of.result c.count_of.ensures c.full-set.ensures)

pub overflow_add-at : goal.overflow_add-at
overflow_add-at c = omega (arith, (first_bounds c.requires (number_of c.full-set.result) (full_so c.args.t.now c.args.k (number_of c.full-set.result) c.count_of.result c.count_of.ensures c.full-set.ensures) c.rows-a.result.used c.rows-a.result.read c.rows-a.new.out c.rows-a.ensures).1, c.rows-a.auto.out, c.well_formed)

pub offset_bounds-p-from : goal.offset_bounds-p-from
offset_bounds-p-from c = omega (arith, (first_bounds c.requires (number_of c.full-set.result) (full_so c.args.t.now c.args.k (number_of c.full-set.result) c.count_of.result c.count_of.ensures c.full-set.ensures) c.rows-a.result.used c.rows-a.result.read c.rows-a.new.out c.rows-a.ensures).0, c.well_formed)

pub slice_bounds-rows-count : goal.slice_bounds-rows-count
slice_bounds-rows-count c = omega (arith, (first_bounds c.requires (number_of c.full-set.result) (full_so c.args.t.now c.args.k (number_of c.full-set.result) c.count_of.result c.count_of.ensures c.full-set.ensures) c.rows-a.result.used c.rows-a.result.read c.rows-a.new.out c.rows-a.ensures).0)

pub slice_bounds-rows-start : goal.slice_bounds-rows-start
slice_bounds-rows-start c = omega (arith, (first_bounds c.requires (number_of c.full-set.result) (full_so c.args.t.now c.args.k (number_of c.full-set.result) c.count_of.result c.count_of.ensures c.full-set.ensures) c.rows-a.result.used c.rows-a.result.read c.rows-a.new.out c.rows-a.ensures).0)

pub offset_bounds-out-at : goal.offset_bounds-out-at
offset_bounds-out-at c = omega (arith, (first_bounds c.requires (number_of c.full-set.result) (full_so c.args.t.now c.args.k (number_of c.full-set.result) c.count_of.result c.count_of.ensures c.full-set.ensures) c.rows-a.result.used c.rows-a.result.read c.rows-a.new.out c.rows-a.ensures).1, c.rows-a.auto.out, c.well_formed)

pub slice_bounds-rows-count-2 : goal.slice_bounds-rows-count-2
slice_bounds-rows-count-2 c = omega (arith, (first_bounds c.requires (number_of c.full-set.result) (full_so c.args.t.now c.args.k (number_of c.full-set.result) c.count_of.result c.count_of.ensures c.full-set.ensures) c.rows-a.result.used c.rows-a.result.read c.rows-a.new.out c.rows-a.ensures).1)

pub slice_bounds-rows-start-2 : goal.slice_bounds-rows-start-2
slice_bounds-rows-start-2 c = omega (arith, (first_bounds c.requires (number_of c.full-set.result) (full_so c.args.t.now c.args.k (number_of c.full-set.result) c.count_of.result c.count_of.ensures c.full-set.ensures) c.rows-a.result.used c.rows-a.result.read c.rows-a.new.out c.rows-a.ensures).1)

pub rows-requires : goal.rows-requires
rows-requires c = second_given c.requires (number_of c.full-set.result) (full_so c.args.t.now c.args.k (number_of c.full-set.result) c.count_of.result c.count_of.ensures c.full-set.ensures) c.rows-a.result.used c.rows-a.result.read c.rows-a.new.out c.rows-a.ensures _ _ c.rows-a.auto.out refl c.rows-a.auto.work

pub meet_at-requires : goal.meet_at-requires
meet_at-requires c = let f = c.full-set in let n = c.count_of in let r = c.rows-a in let s = c.rows in two_lists c.requires (number_of f.result) (full_so c.args.t.now c.args.k (number_of f.result) n.result n.ensures f.ensures) r.result.used r.result.read r.new.out r.ensures _ _ s.result.used s.result.read r.auto.out refl r.auto.work s.new.out s.ensures _ s.auto.work

pub returns : goal.returns
returns c = λ g. let f = c.full-set in let n = c.count_of in let r = c.rows-a in let s = c.rows in answered g (number_of f.result) (full_so c.args.t.now c.args.k (number_of f.result) n.result n.ensures f.ensures) r.result.used r.result.read r.new.out r.ensures _ _ s.result.used s.result.read r.auto.out refl r.auto.work s.new.out s.ensures _ s.auto.work _ c.meet_at.ensures
