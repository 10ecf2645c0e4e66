use mathlib.Core.Path.{refl, ap}
use Rattle.signature.specs.Refusal.{numbered}
use Rattle.signature.proofs.Numbers.{positive}
use Rattle.loading.proofs.Roomy.{room_there, room_missing}
use Rattle.entry.proofs.Sounds.{used_small, check_given, turned_down, settle_given, settled}
use Rattle.entry.proofs.sound.enter_sound.Goals as goal

pub has_room-requires : goal.has_room-requires
has_room-requires c = used_small c.requires.0

pub returns-then-not-has_room : goal.returns-then-not-has_room
returns-then-not-has_room c = λ g. (room_missing _ _ _ _ c.has_room.ensures (used_small g) c.if-not-has_room.true, refl, refl)

pub check-requires : goal.check-requires
check-requires c = check_given c.requires.0 (room_there _ _ _ _ c.has_room.ensures c.if-not-has_room.false)

pub settle-requires : goal.settle-requires
settle-requires c = settle_given (check_given c.requires.0 (room_there _ _ _ _ c.has_room.ensures c.if-not-has_room.false)) c.args.number c.args.plan c.args.witness.now _ c.check.new.rows c.check.ensures c.in-Ok.at (ap numbered c.in-Ok.is) _ c.check.auto.work c.check.auto.rows _ c.requires.1 c.requires.2

pub returns-in-Err : goal.returns-in-Err
returns-in-Err c = λ g. (turned_down (check_given g (room_there _ _ _ _ c.has_room.ensures c.if-not-has_room.false)) c.args.number c.args.plan c.args.witness.now _ c.check.new.rows c.check.ensures c.in-Err.r (ap numbered c.in-Err.is), positive _)

pub returns-in-Ok : goal.returns-in-Ok
returns-in-Ok c = λ g. (settled (check_given g (room_there _ _ _ _ c.has_room.ensures c.if-not-has_room.false)) c.args.number c.args.plan c.args.witness.now _ c.check.new.rows c.check.ensures c.in-Ok.at (ap numbered c.in-Ok.is) _ c.check.auto.work c.check.auto.rows c.requires.1 c.requires.2 _ _ _ c.settle.ensures.entry_of, c.settle.ensures.numbered)
