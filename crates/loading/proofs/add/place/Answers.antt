use mathlib.Core.Path.{refl}
use Prim.Native.Nat.{◌+◌}
use native.Mathlib.Omega.{arith}
use Rattle.loading.proofs.Placing.{at_le, part_length, whole, list_le, placed}
use Rattle.loading.proofs.add.place.Goals as goal

pub build-k-requires : goal.build-k-requires
build-k-requires c = whole c.requires _ (part_length c.args.rows.now (c.args.used + 1) (at_le c.requires))

pub overflow_add-rows : goal.overflow_add-rows
overflow_add-rows c = omega (arith, list_le c.requires _ (part_length c.args.rows.now (c.args.used + 1) (at_le c.requires)) c.build-k.result c.build-k.new.out c.build-k.ensures c.build-k.auto.out c.args.rows.now refl)

pub overflow_add-result : goal.overflow_add-result
overflow_add-result c = omega (arith, list_le c.requires _ (part_length c.args.rows.now (c.args.used + 1) (at_le c.requires)) c.build-k.result c.build-k.new.out c.build-k.ensures c.build-k.auto.out c.args.rows.now refl)

pub overflow_add-result-2 : goal.overflow_add-result-2
overflow_add-result-2 c = omega (arith, list_le c.requires _ (part_length c.args.rows.now (c.args.used + 1) (at_le c.requires)) c.build-k.result c.build-k.new.out c.build-k.ensures c.build-k.auto.out c.args.rows.now refl)

pub returns : goal.returns
returns c = λ g. placed g _ (part_length c.args.rows.now (c.args.used + 1) (at_le g)) c.build-k.result c.build-k.new.out c.build-k.ensures c.build-k.auto.out c.args.rows.now refl
