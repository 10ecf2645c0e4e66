use mathlib.Core.Path.{refl, ◌∙◌}
use Prim.Native.Nat.{◌+◌, ◌-◌}
use native.Mathlib.Omega.{arith}
use lib.ListN.{length, length-set}
use borrow.Rule.Slice.PartMut.{put_mid, same_len_mid}
use Rattle.store.proofs.ChangeFacts.{put_room, put_there, put_count, put_is}
use Rattle.store.proofs.change.put.Goals as goal

pub right-requires : goal.right-requires
right-requires c = let g = c.requires in let q = c.end-behind.ensures g.rs g.holds in (omega (arith, put_there g c.args.plan), omega (arith, put_room g c.args.plan, g.holds.long))

pub overflow_add-at : goal.overflow_add-at
overflow_add-at c = let g = c.requires in omega (arith, put_there g c.args.plan, put_room g c.args.plan, g.holds.long)

pub offset_bounds-table-at : goal.offset_bounds-table-at
offset_bounds-table-at c = let g = c.requires in omega (arith, put_there g c.args.plan, put_room g c.args.plan, g.holds.long)

pub slice_bounds-write-end : goal.slice_bounds-write-end
slice_bounds-write-end c = let g = c.requires in omega (arith, put_there g c.args.plan, put_room g c.args.plan, g.holds.long, c.right.auto.s)

pub overflow_add-table : goal.overflow_add-table
overflow_add-table c = let g = c.requires in omega (arith, put_count g c.args.plan c.right.new.s c.write.new.words _ _ (c.end-behind.ensures g.rs g.holds) refl c.right.ensures c.write.ensures, g.few)

pub shape_of-table : goal.shape_of-table
shape_of-table c = let at = c.args.at in let n = at + (3 + length c.args.pattern.now) - at in
    length-set (put_mid at n c.right.new.s c.write.new.words) 0 _ ∙ same_len_mid at n c.right.new.s c.write.new.words c.write.auto.words ∙ c.right.auto.s

pub returns : goal.returns
returns c = λ g. put_is g c.args.plan c.right.new.s c.write.new.words _ _ (c.end-behind.ensures g.rs g.holds) refl c.right.ensures c.write.ensures
