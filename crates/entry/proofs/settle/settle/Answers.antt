use native.Mathlib.Omega.{arith}
use Rattle.entry.proofs.Settles.{next_le, place_given, put_given, sharer_given, shared, entered}
use Rattle.entry.proofs.settle.settle.Goals as goal

pub place-requires : goal.place-requires
place-requires c = place_given c.requires

pub overflow_add-used : goal.overflow_add-used
overflow_add-used c = omega (arith, next_le c.requires)

pub first_sharer-requires : goal.first_sharer-requires
first_sharer-requires c = (sharer_given c.requires c.place.result c.place.new.rows c.place.ensures, omega (arith, c.place.auto.work, c.requires.matrix_room))

pub returns-in-Some : goal.returns-in-Some
returns-in-Some c = record { entry_of = λ g. shared g c.place.result c.place.new.rows c.place.ensures c.args.plan c.args.witness.now c.first_sharer.result c.first_sharer.new.out c.first_sharer.ensures _ c.in-Some.is; numbered = tt }

pub put-requires : goal.put-requires
put-requires c = put_given c.requires

pub returns : goal.returns
returns c = record { entry_of = λ g. entered g c.place.result c.place.new.rows c.place.ensures c.args.plan c.args.witness.now c.first_sharer.result c.first_sharer.new.out c.first_sharer.ensures c.in_default.is c.put.new.table c.put.ensures; numbered = tt }
