use native.Mathlib.Omega.{arith}
use Rattle.signature.proofs.Booleans.{not_true, not_false}
use Rattle.cell.proofs.Walk.{back_length}
use Rattle.loading.proofs.Adding.{used_le, le, words_given, front_kept, refused, few, heavy, place_given, added}
use Rattle.loading.proofs.Placing.{part_length}
use Rattle.loading.proofs.Roomy.{room_there, room_missing}
use Rattle.loading.proofs.add.add.Goals as goal

pub has_room-requires : goal.has_room-requires
has_room-requires c = used_le c.requires

pub returns-then-not-has_room : goal.returns-then-not-has_room
returns-then-not-has_room c = λ g. room_missing _ _ _ _ c.has_room.ensures (used_le g) (not_true _ c.if-not-has_room.true-raw)

pub slice_bounds-admit-count : goal.slice_bounds-admit-count
slice_bounds-admit-count c = omega (arith, le c.requires)

pub slice_bounds-admit-start : goal.slice_bounds-admit-start
slice_bounds-admit-start c = omega (arith, le c.requires)

pub slice_bounds-admit-end : goal.slice_bounds-admit-end
slice_bounds-admit-end c = omega (arith, le c.requires)

pub admit-requires : goal.admit-requires
admit-requires c = words_given c.requires (room_there _ _ _ _ c.has_room.ensures (not_false _ c.if-not-has_room.false-raw)) _ (part_length c.args.rows.now c.args.used (le c.requires))

pub returns-in_default : goal.returns-in_default
returns-in_default c = λ g. refused g c.args.p.now (room_there _ _ _ _ c.has_room.ensures (not_false _ c.if-not-has_room.false-raw)) _ (part_length c.args.rows.now c.args.used (le g)) _ c.admit.ensures c.in_default.not-Ok

pub overflow_add-total : goal.overflow_add-total
overflow_add-total c = omega (arith, few c.requires c.args.p.now (room_there _ _ _ _ c.has_room.ensures (not_false _ c.if-not-has_room.false-raw)) _ (part_length c.args.rows.now c.args.used (le c.requires)) _ c.admit.ensures c.in-Ok.w c.in-Ok.is, c.requires.light)

pub returns-then-total-gt-WEIGHT : goal.returns-then-total-gt-WEIGHT
returns-then-total-gt-WEIGHT c = λ g. heavy g c.args.p.now (room_there _ _ _ _ c.has_room.ensures (not_false _ c.if-not-has_room.false-raw)) _ (part_length c.args.rows.now c.args.used (le g)) _ c.admit.ensures c.in-Ok.w c.in-Ok.is c.if-total-gt-WEIGHT.true

pub place-end-requires : goal.place-end-requires
place-end-requires c = place_given c.requires c.args.p.now (room_there _ _ _ _ c.has_room.ensures (not_false _ c.if-not-has_room.false-raw)) _ (part_length c.args.rows.now c.args.used (le c.requires)) _ c.admit.ensures c.in-Ok.w c.in-Ok.is c.if-total-gt-WEIGHT.false _ _ (back_length c.args.rows.now c.admit.new.out c.args.used (le c.requires) c.admit.auto.out) c.admit.auto.work

pub returns : goal.returns
returns c = λ g. let a = c.admit in let k = c.place-end in added g c.args.p.now (room_there _ _ _ _ c.has_room.ensures (not_false _ c.if-not-has_room.false-raw)) _ (part_length c.args.rows.now c.args.used (le g)) _ a.ensures c.in-Ok.w c.in-Ok.is c.if-total-gt-WEIGHT.false _ _ (back_length c.args.rows.now a.new.out c.args.used (le g) a.auto.out) a.auto.work _ (front_kept c.args.rows.now a.new.out c.args.used (le g)) k.result k.new.rows k.ensures
