use mathlib.Core.Path.{refl, ap}
use Rattle.std.proofs.lemmas.Result.{err_from_is_err_and}
use Rattle.signature.specs.Refusal.{numbered}
use native.Mathlib.Omega.{arith}
use Rattle.loading.proofs.Placing.{part_length}
use Rattle.entry.proofs.Checks.{holds, le, words_given, bad_number, bad_pattern, sum_small, full, heavy, clear}
use Rattle.entry.proofs.check.check.Goals as goal

pub free_at-requires : goal.free_at-requires
free_at-requires c = (c.requires.force.rs, holds c.requires)

pub offset_bounds-rows-used : goal.offset_bounds-rows-used
offset_bounds-rows-used c = omega (arith, le c.requires)

pub slice_bounds-admit-count : goal.slice_bounds-admit-count
slice_bounds-admit-count c = omega (arith, le c.requires)

pub slice_bounds-admit-start : goal.slice_bounds-admit-start
slice_bounds-admit-start c = omega (arith, le c.requires)

pub admit-requires : goal.admit-requires
admit-requires c = words_given c.requires _ _ (part_length c.args.rows.now c.args.used (le c.requires)) refl

pub bounds-table-0 : goal.bounds-table-0
bounds-table-0 c = omega (arith, (holds c.requires).long)

pub returns-then-table-ge-RULES : goal.returns-then-table-ge-RULES
returns-then-table-ge-RULES c = λ g. full g c.args.number _ c.free_at.ensures _ (ap numbered c.in_ok-at.was) _ _ (part_length c.args.rows.now c.args.used (le g)) refl _ c.admit.ensures _ (ap numbered c.in_ok-weight.was) (omega (arith, c.if-table-ge-RULES.true))

pub overflow_add-total : goal.overflow_add-total
overflow_add-total c = omega (arith, sum_small c.requires c.args.number _ c.free_at.ensures _ (ap numbered c.in_ok-at.was) _ _ (part_length c.args.rows.now c.args.used (le c.requires)) refl _ c.admit.ensures _ (ap numbered c.in_ok-weight.was))

pub returns-then-total-weight-gt-WEIGHT : goal.returns-then-total-weight-gt-WEIGHT
returns-then-total-weight-gt-WEIGHT c = λ g. heavy g c.args.number _ c.free_at.ensures _ (ap numbered c.in_ok-at.was) _ _ (part_length c.args.rows.now c.args.used (le g)) refl _ c.admit.ensures _ (ap numbered c.in_ok-weight.was) (omega (arith, c.if-total-weight-gt-WEIGHT.true))

pub returns-in_err-at : goal.returns-in_err-at
returns-in_err-at c = let p = err_from_is_err_and c.from_residual.result c.from_residual.ensures.1 in rw (p.1, p.2) λ g. bad_number g c.args.number _ c.free_at.ensures _ (ap numbered c.in_err-at.was)

pub returns-in_err-weight : goal.returns-in_err-weight
returns-in_err-weight c = let p = err_from_is_err_and c.from_residual-in_err-weight.result c.from_residual-in_err-weight.ensures.1 in rw (p.1, p.2) λ g. bad_pattern g c.args.number _ c.free_at.ensures _ (ap numbered c.in_ok-at.was) _ _ (part_length c.args.rows.now c.args.used (le g)) refl _ c.admit.ensures _ (ap numbered c.in_err-weight.was)

pub returns : goal.returns
returns c = λ g. clear g c.args.number _ c.free_at.ensures _ (ap numbered c.in_ok-at.was) _ _ (part_length c.args.rows.now c.args.used (le g)) refl _ c.admit.ensures _ (ap numbered c.in_ok-weight.was) (omega (arith, c.if-table-ge-RULES.false)) (omega (arith, c.if-total-weight-gt-WEIGHT.false)) c.admit.new.out
