-- A pattern that passes the checks is built behind the rows that are held.
use Rattle.std.proofs.Common.{true, refl, length, arith}
use Rattle.pairs.proofs.Holds.{patterned, readable, passing, whole, rows_first, part_room, held}
use Rattle.pairs.proofs.hold.hold.Goals as goal

pub ranged-requires : goal.ranged-requires
ranged-requires c = readable c.requires.listed.known c.args.p.now true c.if-not-well_formed.ensures refl

pub weigh-requires : goal.weigh-requires
weigh-requires c = patterned c.requires.listed.known c.args.p.now true c.if-not-well_formed.ensures refl

pub build-requires : goal.build-requires
build-requires c =
    whole c.requires.listed.known c.args.p.now true c.if-not-well_formed.ensures refl true c.if-not-ranged.ensures refl _ c.in-Some.ensures c.in-Some.w refl
    (part_room c.requires) c.requires.work_room

pub overflow_add-used : goal.overflow_add-used
overflow_add-used c =
    let q = passing c.requires.listed.known c.args.p.now true c.if-not-well_formed.ensures refl true c.if-not-ranged.ensures refl _ c.in-Some.ensures c.in-Some.w refl in
    let f = rows_first c.requires.listed.known c.args.p.now true c.if-not-well_formed.ensures refl true c.if-not-ranged.ensures refl _ c.in-Some.ensures c.in-Some.w refl (part_room c.requires) c.requires.work_room c.build.ensures in
    let h = held c.requires q.p q.words c.in-Some.w q.weighs c.if-weight-gt-ROWS.false c.build.result c.build.new.out f c.build.auto.out (length c.build.new.work) c.build.auto.work in
    omega (arith, h.small, h.light)

pub returns : goal.returns
returns c =
    let q = passing c.requires.listed.known c.args.p.now true c.if-not-well_formed.ensures refl true c.if-not-ranged.ensures refl _ c.in-Some.ensures c.in-Some.w refl in
    let f = rows_first c.requires.listed.known c.args.p.now true c.if-not-well_formed.ensures refl true c.if-not-ranged.ensures refl _ c.in-Some.ensures c.in-Some.w refl (part_room c.requires) c.requires.work_room c.build.ensures in
    held c.requires q.p q.words c.in-Some.w q.weighs c.if-weight-gt-ROWS.false c.build.result c.build.new.out f c.build.auto.out (length c.build.new.work) c.build.auto.work
