use mathlib.Core.Path.{◌∙◌}
use Prim.Native.Nat.{◌-◌}
use native.Mathlib.Omega.{arith}
use lib.ListN.{length, set, length-set, length-take, length-drop}
use borrow.Rule.Slice.PartMut.{same_len_mid}
use Rattle.sets.specs.Heads.{number_of}
use Rattle.preorder.proofs.FrontLaws.{split_room, test_room, front_split, front_test}
use Rattle.preorder.proofs.front.front.Goals as goal

pub bounds-out-0 : goal.bounds-out-0
bounds-out-0 c = omega (arith, split_room c.args.f c.args.m (length c.args.out.now) c.if-f-eq-LEVEL_BASE.true c.requires.2)

pub bounds-out-1 : goal.bounds-out-1
bounds-out-1 c = simp length-set (omega (arith, split_room c.args.f c.args.m (length c.args.out.now) c.if-f-eq-LEVEL_BASE.true c.requires.2))

pub slice_bounds-put_members-count : goal.slice_bounds-put_members-count
slice_bounds-put_members-count c = simp length-set (omega (arith, split_room c.args.f c.args.m (length c.args.out.now) c.if-f-eq-LEVEL_BASE.true c.requires.2))

pub slice_bounds-put_members-start : goal.slice_bounds-put_members-start
slice_bounds-put_members-start c = simp length-set (omega (arith, split_room c.args.f c.args.m (length c.args.out.now) c.if-f-eq-LEVEL_BASE.true c.requires.2))

pub put_members-requires : goal.put_members-requires
put_members-requires c = (c.requires.0, simp (length-take, length-drop, length-set) (omega (arith, split_room c.args.f c.args.m (length c.args.out.now) c.if-f-eq-LEVEL_BASE.true c.requires.2)))

pub shape_of-out-then-f-eq-LEVEL_BASE : goal.shape_of-out-then-f-eq-LEVEL_BASE
shape_of-out-then-f-eq-LEVEL_BASE c = same_len_mid 2 (length (set (set c.args.out.now 0 4) 1 c.args.m) - 2) (set (set c.args.out.now 0 4) 1 c.args.m) c.put_members.new.out c.put_members.auto.out ∙ simp length-set

pub returns-then-f-eq-LEVEL_BASE : goal.returns-then-f-eq-LEVEL_BASE
returns-then-f-eq-LEVEL_BASE c = front_split c.args.f (number_of c.args.s) c.args.m c.requires.0 c.args.out.now c.put_members.new.out c.if-f-eq-LEVEL_BASE.true (split_room c.args.f c.args.m (length c.args.out.now) c.if-f-eq-LEVEL_BASE.true c.requires.2) c.put_members.ensures

pub bounds-out-0-2 : goal.bounds-out-0-2
bounds-out-0-2 c = omega (arith, test_room c.args.f c.args.m (length c.args.out.now) c.if-f-eq-LEVEL_BASE.false c.requires.2)

pub bounds-out-1-2 : goal.bounds-out-1-2
bounds-out-1-2 c = simp length-set (omega (arith, test_room c.args.f c.args.m (length c.args.out.now) c.if-f-eq-LEVEL_BASE.false c.requires.2))

pub bounds-out-2 : goal.bounds-out-2
bounds-out-2 c = simp length-set (omega (arith, test_room c.args.f c.args.m (length c.args.out.now) c.if-f-eq-LEVEL_BASE.false c.requires.2))

pub returns : goal.returns
returns c = front_test c.args.f (number_of c.args.s) c.args.m c.requires.0 c.args.out.now c.if-f-eq-LEVEL_BASE.false (test_room c.args.f c.args.m (length c.args.out.now) c.if-f-eq-LEVEL_BASE.false c.requires.2)
