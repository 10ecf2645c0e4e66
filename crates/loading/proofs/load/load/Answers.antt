use mathlib.Core.Path.{refl, ◌∙◌}
use Prim.Native.Nat.{◌+◌, ◌≤◌}
use native.Mathlib.Omega.{arith}
use lib.ListN.{get_or}
use Rattle.std.proofs.lemmas.Result.{err_from_is_err_and}
use Rattle.table.specs.Limits.{limits, table_length}
use Rattle.loading.proofs.Loads.{unlaid, the_rules, start, end_le, given, failed, again, done, lists, shared}
use Rattle.loading.proofs.load.load.Goals.{In-loop-i}
use Rattle.loading.proofs.load.load.Goals as goal

-- the next rule lies in the table
within : (c : In-loop-i) → c.loop-i.at + 3 + get_or c.args.table.now (c.loop-i.at + 2) 0 ≤ table_length limits
within c = let r = the_rules c.requires _ c.layout.ensures c.if-not-layout.false in end_le c.requires r.0 r.1 (c.loop-i.invariant.2 c.requires r.0 r.1) c.loop-i-test.true

pub layout-requires : goal.layout-requires
layout-requires c = c.requires.long

pub returns-then-not-layout : goal.returns-then-not-layout
returns-then-not-layout c = λ g. unlaid g _ c.layout.ensures c.if-not-layout.true

pub bounds-table-0 : goal.bounds-table-0
bounds-table-0 c = omega (arith, c.requires.long)

pub loop-i-init : goal.loop-i-init
loop-i-init c = (refl, refl, λ g rs h. start g rs h _)

pub overflow_add-from : goal.overflow_add-from
overflow_add-from c = omega (arith, within (goal.at.overflow_add-from c).In-loop-i)

pub overflow_add-end : goal.overflow_add-end
overflow_add-end c = omega (arith, within (goal.at.overflow_add-end c).In-loop-i)

pub offset_bounds-table-at : goal.offset_bounds-table-at
offset_bounds-table-at c = omega (arith, within (goal.at.offset_bounds-table-at c).In-loop-i)

pub bounds-table-at : goal.bounds-table-at
bounds-table-at c = omega (arith, within (goal.at.bounds-table-at c).In-loop-i, c.requires.long)

pub overflow_add-end-in-loop-i : goal.overflow_add-end-in-loop-i
overflow_add-end-in-loop-i c = omega (arith, within (goal.at.overflow_add-end-in-loop-i c).In-loop-i)

pub offset_bounds-table-from : goal.offset_bounds-table-from
offset_bounds-table-from c = omega (arith, within (goal.at.offset_bounds-table-from c).In-loop-i)

pub slice_bounds-add-end : goal.slice_bounds-add-end
slice_bounds-add-end c = omega (arith, within (goal.at.slice_bounds-add-end c).In-loop-i, c.requires.long)

pub add-requires : goal.add-requires
add-requires c = let r = the_rules c.requires _ c.layout.ensures c.if-not-layout.false in given c.requires r.0 r.1 (c.loop-i.invariant.2 c.requires r.0 r.1) c.loop-i-test.true

pub returns-in_err-used : goal.returns-in_err-used
returns-in_err-used c = let p = err_from_is_err_and c.from_residual.result c.from_residual.ensures.1 in rw (p.1, p.2) λ g. let r = the_rules c.requires _ c.layout.ensures c.if-not-layout.false in failed g r.0 r.1 (c.loop-i.invariant.2 g r.0 r.1) c.loop-i-test.true _ _ _ c.add.new.rows c.add.ensures _ c.in_err-used.was _ _ c.loop-i.invariant.0 c.loop-i.invariant.1

pub loop-i-preserved : goal.loop-i-preserved
loop-i-preserved c = (c.add.auto.rows ∙ c.loop-i.invariant.0, c.add.auto.work ∙ c.loop-i.invariant.1, λ g rs h. again g rs h (c.loop-i.invariant.2 g rs h) c.loop-i-test.true _ _ _ c.add.new.rows c.add.ensures _ _ c.in_ok-used.was)

pub shape_of-rows-then-work-lt-MATRIX : goal.shape_of-rows-then-work-lt-MATRIX
shape_of-rows-then-work-lt-MATRIX c = c.loop-i.invariant.0

pub shape_of-work-then-work-lt-MATRIX : goal.shape_of-work-then-work-lt-MATRIX
shape_of-work-then-work-lt-MATRIX c = c.loop-i.invariant.1

pub returns-then-work-lt-MATRIX : goal.returns-then-work-lt-MATRIX
returns-then-work-lt-MATRIX c = λ g h k. omega (arith, k, c.if-work-lt-MATRIX.true, c.loop-i.invariant.1)

pub apart-requires : goal.apart-requires
apart-requires c = let g = c.requires in let r = the_rules c.requires _ c.layout.ensures c.if-not-layout.false in (lists g r.0 r.1 (c.loop-i.invariant.2 g r.0 r.1) c.loop-i-test.false, g.known.decoded.long, omega (arith, c.if-work-lt-MATRIX.false))

pub returns-then-not-apart : goal.returns-then-not-apart
returns-then-not-apart c = λ g. let r = the_rules c.requires _ c.layout.ensures c.if-not-layout.false in let m = c.loop-i.invariant.2 g r.0 r.1 in let z = c.loop-i-test.false in shared g r.0 r.1 m z c.apart.result (c.apart.ensures (lists g r.0 r.1 m z)) c.if-not-apart.true

pub returns : goal.returns
returns c = λ g. let r = the_rules c.requires _ c.layout.ensures c.if-not-layout.false in let m = c.loop-i.invariant.2 g r.0 r.1 in let z = c.loop-i-test.false in done g r.0 r.1 m z c.apart.result (c.apart.ensures (lists g r.0 r.1 m z)) c.if-not-apart.false
