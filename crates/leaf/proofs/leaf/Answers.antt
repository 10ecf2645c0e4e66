use mathlib.Core.Path.{refl}
use Prim.Native.Nat.{◌-◌}
use native.Mathlib.Omega.{arith}
use borrow.Rule.Slice.PartMut.{same_len_mid}
use lib.ListN.{length, get_or, length-set}
use Rattle.path.specs.State.{rule_of, plan_of}
use Rattle.leaf.proofs.LeafLaws.{pairing, leaf_short, leaf_full, leaf_wrote}
use Rattle.leaf.proofs.leaf.Goals as goal

pub returns-then-out-lt-HIT_WORDS : goal.returns-then-out-lt-HIT_WORDS
returns-then-out-lt-HIT_WORDS c = leaf_short c.args.a.now c.args.rows.now c.args.vis.now c.args.r (get_or c.args.cur.now c.args.r 0) (rule_of c.args.rows.now c.args.r) (plan_of c.args.rows.now c.args.r) _ c.if-out-lt-HIT_WORDS.true

pub pairs-requires : goal.pairs-requires
pairs-requires c = pairing _ c.requires.0 refl

pub returns-in_default : goal.returns-in_default
returns-in_default c = leaf_full c.args.a.now c.args.rows.now c.args.vis.now c.args.r (get_or c.args.cur.now c.args.r 0) (rule_of c.args.rows.now c.args.r) (plan_of c.args.rows.now c.args.r) c.args.out.now _ (omega (arith, c.if-out-lt-HIT_WORDS.false)) _ _ (same_len_mid 4 (length c.args.out.now - 4) c.args.out.now c.pairs.new.out c.pairs.auto.out) c.in_default.ensures

pub bounds-out-1 : goal.bounds-out-1
bounds-out-1 c = simp length-set (omega (arith, (same_len_mid 4 (length c.args.out.now - 4) c.args.out.now c.pairs.new.out c.pairs.auto.out)))

pub bounds-out-2 : goal.bounds-out-2
bounds-out-2 c = simp length-set (omega (arith, (same_len_mid 4 (length c.args.out.now - 4) c.args.out.now c.pairs.new.out c.pairs.auto.out)))

pub bounds-out-3 : goal.bounds-out-3
bounds-out-3 c = simp length-set (omega (arith, (same_len_mid 4 (length c.args.out.now - 4) c.args.out.now c.pairs.new.out c.pairs.auto.out)))

pub shape_of-out : goal.shape_of-out
shape_of-out c = simp length-set (same_len_mid 4 (length c.args.out.now - 4) c.args.out.now c.pairs.new.out c.pairs.auto.out)

pub returns : goal.returns
returns c = leaf_wrote c.args.a.now c.args.rows.now c.args.vis.now c.args.r (get_or c.args.cur.now c.args.r 0) (rule_of c.args.rows.now c.args.r) (plan_of c.args.rows.now c.args.r) c.args.out.now _ (omega (arith, c.if-out-lt-HIT_WORDS.false)) c.in-Some.n c.in-Some.ensures _ _ c.rule_of.ensures c.plan_of.ensures
