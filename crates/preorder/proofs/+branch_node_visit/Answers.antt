use mathlib.Core.Path.{refl, sym, ap, ◌∙◌}
use mathlib.Core.List.{[]}
use Prim.Native.Nat.{◌-◌}
use native.Mathlib.Omega.{arith}
use borrow.Rule.Slice.PartMut.{same_len_mid}
use lib.ListN.{length, set, take, drop, length-set, length-take, length-drop}
use Rattle.signature.proofs.KnownFacts.{long}
use Rattle.sets.specs.Heads.{number_of}
use Rattle.sets.specs.Set.{members}
use Rattle.rowset.specs.Member.{member}
use Rattle.preorder.proofs.BlankLaws.{blank_short, blank_given, blank_most, blank_wrote}
use Rattle.preorder.proofs.CallLaws.{restored, kept_through, cols, cursor_within, leaving, looking, skip_child, skip_result, skip_fits, branch_child, branch_result, none_result, leaf_result, lower_ok}
use Rattle.preorder.proofs.ChildLaws.{kind_there, head_bounds, bounds, head_fits, head_asked, head_width, keeping, member_small}
use Rattle.preorder.proofs.FrontLaws.{front_bounds}
use Rattle.preorder.proofs.HeadsLaws.{members_next, members_first, rest_of, size_most, some_members, left_among}
use Rattle.preorder.proofs.LoopLaws.{short_result, given_child, child_more, long_result, child_pos, front_is, node_start, node_end, width, kept_trans}
use Rattle.preorder.proofs.NodeLaws.{no_room, real_cell}
use Rattle.preorder.proofs.+branch_node_visit.Goals as goal

pub branch-first_of-f-requires : goal.branch-first_of-f-requires
branch-first_of-f-requires t c = (long c.requires.given.known, (head_bounds c.requires).1)

pub branch-heads-all-requires : goal.branch-heads-all-requires
branch-heads-all-requires t c = (record { known = c.requires.given.known; there = kind_there c.requires }, keeping c.requires c.args.cur.now 0 refl (omega arith))

pub branch-overflow_cast-m : goal.branch-overflow_cast-m
branch-overflow_cast-m t c = omega (arith, size_most (number_of c.heads-all.result), c.size-m.ensures.0)

pub branch-front_words-links-requires : goal.branch-front_words-links-requires
branch-front_words-links-requires t c = omega (arith, size_most (number_of c.heads-all.result), c.size-m.ensures.0)

pub branch-overflow_add-at : goal.branch-overflow_add-at
branch-overflow_add-at t c = omega (arith, size_most (number_of c.heads-all.result), c.size-m.ensures.0, c.front_words-links.ensures, front_bounds c.first_of-f.result c.size-m.result)

pub branch-overflow_add-result : goal.branch-overflow_add-result
branch-overflow_add-result t c = omega (arith, bounds c.requires)

pub branch-returns-then-out-at : goal.branch-returns-then-out-at
branch-returns-then-out-at t c = record { wrote = (λ g fuel h. short_result g fuel c.first_of-f.result (number_of c.heads-all.result) c.size-m.result c.args.out.now c.first_of-f.ensures c.heads-all.ensures c.size-m.ensures.0 (omega (arith, c.if-out-at.true, c.front_words-links.ensures))); kept = record { cursors = refl; visits = (λ r q h l. refl); long = refl } }

pub branch-front-requires : goal.branch-front-requires
branch-front-requires t c = (c.size-m.ensures.0, omega (arith, size_most (number_of c.heads-all.result), c.size-m.ensures.0), omega (arith, c.if-out-at.false, c.front_words-links.ensures))

pub branch-loop-j-init : goal.branch-loop-j-init
branch-loop-j-init t c = (omega arith, omega (arith, c.if-out-at.false, c.front.auto.out), refl, refl, refl, (λ r q h l. refl), (λ len e g fuel h. node_start g fuel c.first_of-f.result (number_of c.heads-all.result) c.size-m.result c.front_words-links.result c.args.out.now c.front.new.out c.size-m.ensures.0 c.front_words-links.ensures (omega (arith, c.if-out-at.false, c.front_words-links.ensures)) c.front.ensures), omega arith, omega (arith, c.size-m.ensures.0), (λ i z. z))

pub branch-lowest-h-requires : goal.branch-lowest-h-requires
branch-lowest-h-requires t c = some_members (number_of c.loop-j.hs) (omega (arith, c.loop-j.invariant.8, c.loop-j-test.true))

pub branch-overflow_cast-h : goal.branch-overflow_cast-h
branch-overflow_cast-h t c = omega (arith, c.lowest-h.ensures.small)

pub branch-keep-requires : goal.branch-keep-requires
branch-keep-requires t c = (keeping c.requires c.loop-j.cur c.lowest-h.result c.loop-j.invariant.4 c.lowest-h.ensures.small, refl)

pub branch-overflow_sub-w : goal.branch-overflow_sub-w
branch-overflow_sub-w t c = omega (arith, bounds c.requires)

pub branch-overflow_cast-h-in-loop-j : goal.branch-overflow_cast-h-in-loop-j
branch-overflow_cast-h-in-loop-j t c = omega (arith, c.lowest-h.ensures.small)

pub branch-overflow_add-f : goal.branch-overflow_add-f
branch-overflow_add-f t c = omega (arith, head_fits c.requires c.lowest-h.result (member_small c.requires (number_of c.heads-all.result) (number_of c.loop-j.hs) c.lowest-h.result c.heads-all.ensures c.loop-j.invariant.9 c.lowest-h.ensures.member), c.first_of-f.ensures)

pub branch-head_arity-requires : goal.branch-head_arity-requires
branch-head_arity-requires t c = (long c.requires.given.known, head_asked c.requires c.lowest-h.result c.first_of-f.result (member_small c.requires (number_of c.heads-all.result) (number_of c.loop-j.hs) c.lowest-h.result c.heads-all.ensures c.loop-j.invariant.9 c.lowest-h.ensures.member) c.first_of-f.ensures)

pub branch-overflow_cast-w : goal.branch-overflow_cast-w
branch-overflow_cast-w t c = omega (arith, head_width c.requires c.lowest-h.result c.first_of-f.result c.head_arity.result (member_small c.requires (number_of c.heads-all.result) (number_of c.loop-j.hs) c.lowest-h.result c.heads-all.ensures c.loop-j.invariant.9 c.lowest-h.ensures.member) c.first_of-f.ensures c.head_arity.ensures)

pub branch-overflow_add-w : goal.branch-overflow_add-w
branch-overflow_add-w t c = omega (arith, head_width c.requires c.lowest-h.result c.first_of-f.result c.head_arity.result (member_small c.requires (number_of c.heads-all.result) (number_of c.loop-j.hs) c.lowest-h.result c.heads-all.ensures c.loop-j.invariant.9 c.lowest-h.ensures.member) c.first_of-f.ensures c.head_arity.ensures, bounds c.requires)

pub branch-overflow_add-v : goal.branch-overflow_add-v
branch-overflow_add-v t c = omega (arith, bounds c.requires)

pub branch-overflow_add-base : goal.branch-overflow_add-base
branch-overflow_add-base t c = omega (arith, bounds c.requires, (c.loop-j.invariant.2 ∙ c.front.auto.out), c.loop-j.invariant.1)

pub branch-offset_bounds-out-at : goal.branch-offset_bounds-out-at
branch-offset_bounds-out-at t c = omega (arith, bounds c.requires, (c.loop-j.invariant.2 ∙ c.front.auto.out), c.loop-j.invariant.1)

pub branch-slice_bounds-node-count : goal.branch-slice_bounds-node-count
branch-slice_bounds-node-count t c = omega (arith, c.loop-j.invariant.1)

pub branch-slice_bounds-node-start : goal.branch-slice_bounds-node-start
branch-slice_bounds-node-start t c = omega (arith, c.loop-j.invariant.1)

pub branch-slice_bounds-node-end : goal.branch-slice_bounds-node-end
branch-slice_bounds-node-end t c = omega (arith, c.loop-j.invariant.1)

pub branch-node-u-requires : goal.branch-node-u-requires
branch-node-u-requires t c = (simp (length-take, length-drop) (omega (arith, (c.loop-j.invariant.2 ∙ c.front.auto.out), c.loop-j.invariant.7, c.loop-j.invariant.1, c.front_words-links.ensures, front_bounds c.first_of-f.result c.size-m.result)), given_child c.requires c.keep.new.next c.loop-j.cur c.loop-j.vis (take (length c.loop-j.out - c.loop-j.at) (drop c.loop-j.at c.loop-j.out)) c.lowest-h.result c.loop-j.at _ (width c.args.t.now c.args.ncols c.args.k c.lowest-h.result c.first_of-f.result c.head_arity.result c.first_of-f.ensures c.head_arity.ensures) c.loop-j.invariant.4 (member_small c.requires (number_of c.heads-all.result) (number_of c.loop-j.hs) c.lowest-h.result c.heads-all.ensures c.loop-j.invariant.9 c.lowest-h.ensures.member) c.keep.ensures c.loop-j.invariant.5 c.loop-j.invariant.3 (omega (arith, c.loop-j.invariant.7, c.front_words-links.ensures, front_bounds c.first_of-f.result c.size-m.result)) (simp (length-take, length-drop) (omega (arith, (c.loop-j.invariant.2 ∙ c.front.auto.out), c.loop-j.invariant.1))))

pub branch-overflow_sub-out : goal.branch-overflow_sub-out
branch-overflow_sub-out t c = omega (arith, same_len_mid c.loop-j.at (length c.loop-j.out - c.loop-j.at) c.loop-j.out c.node-u.new.out c.node-u.auto.out, c.loop-j.invariant.1)

pub branch-overflow_add-result-then-u-out : goal.branch-overflow_add-result-then-u-out
branch-overflow_add-result-then-u-out t c = omega (arith, same_len_mid c.loop-j.at (length c.loop-j.out - c.loop-j.at) c.loop-j.out c.node-u.new.out c.node-u.auto.out, (c.loop-j.invariant.2 ∙ c.front.auto.out), bounds c.requires)

pub branch-shape_of-out-then-u-out : goal.branch-shape_of-out-then-u-out
branch-shape_of-out-then-u-out t c = same_len_mid c.loop-j.at (length c.loop-j.out - c.loop-j.at) c.loop-j.out c.node-u.new.out c.node-u.auto.out ∙ (c.loop-j.invariant.2 ∙ c.front.auto.out)

pub branch-returns-then-u-out : goal.branch-returns-then-u-out
branch-returns-then-u-out t c = record {
  wrote = (λ g fuel h. long_result g c.keep.new.next c.loop-j.cur c.loop-j.vis c.front.new.out c.loop-j.out c.node-u.new.out c.first_of-f.result (number_of c.heads-all.result) (number_of c.loop-j.hs) (rest_of (number_of c.loop-j.hs) c.lowest-h.result) c.lowest-h.result c.loop-j.j c.loop-j.at c.node-u.result _ c.first_of-f.ensures (width c.args.t.now c.args.ncols c.args.k c.lowest-h.result c.first_of-f.result c.head_arity.result c.first_of-f.ensures c.head_arity.ensures) c.loop-j.invariant.4 (member_small c.requires (number_of c.heads-all.result) (number_of c.loop-j.hs) c.lowest-h.result c.heads-all.ensures c.loop-j.invariant.9 c.lowest-h.ensures.member) c.keep.ensures c.loop-j.invariant.5 c.loop-j.invariant.3 c.loop-j.invariant.1 (c.loop-j.invariant.2 ∙ c.front.auto.out) (members_first (number_of c.loop-j.hs) c.lowest-h.result c.lowest-h.ensures) c.args.out.now _ fuel c.heads-all.ensures h (omega (arith, c.loop-j.invariant.7, c.front_words-links.ensures, front_bounds c.first_of-f.result c.size-m.result)) refl c.node-u.ensures.wrote (c.loop-j.invariant.6 _ (sym c.front.auto.out) g fuel h) (omega (arith, same_len_mid c.loop-j.at (length c.loop-j.out - c.loop-j.at) c.loop-j.out c.node-u.new.out c.node-u.auto.out, c.if-u-out.true)) _ (same_len_mid c.loop-j.at (length c.loop-j.out - c.loop-j.at) c.loop-j.out c.node-u.new.out c.node-u.auto.out ∙ (c.loop-j.invariant.2 ∙ c.front.auto.out)));
  kept = record { cursors = c.node-u.ensures.kept.cursors ∙ c.loop-j.invariant.4; visits = kept_trans c.args.n c.args.cur.now c.loop-j.cur c.args.vis.now c.loop-j.vis c.node-u.new.vis c.loop-j.invariant.4 c.loop-j.invariant.5 c.node-u.ensures.kept.visits; long = c.node-u.ensures.kept.long ∙ c.loop-j.invariant.3 };
}

pub branch-overflow_add-out : goal.branch-overflow_add-out
branch-overflow_add-out t c = omega (arith, bounds c.requires, (c.loop-j.invariant.2 ∙ c.front.auto.out), c.loop-j.invariant.1)

pub branch-overflow_cast-out : goal.branch-overflow_cast-out
branch-overflow_cast-out t c = omega (arith, bounds c.requires, (c.loop-j.invariant.2 ∙ c.front.auto.out), child_pos c.requires c.keep.new.next c.loop-j.cur c.loop-j.vis c.front.new.out c.loop-j.out c.node-u.new.out c.first_of-f.result (number_of c.heads-all.result) (number_of c.loop-j.hs) (rest_of (number_of c.loop-j.hs) c.lowest-h.result) c.lowest-h.result c.loop-j.j c.loop-j.at c.node-u.result _ c.first_of-f.ensures (width c.args.t.now c.args.ncols c.args.k c.lowest-h.result c.first_of-f.result c.head_arity.result c.first_of-f.ensures c.head_arity.ensures) c.loop-j.invariant.4 (member_small c.requires (number_of c.heads-all.result) (number_of c.loop-j.hs) c.lowest-h.result c.heads-all.ensures c.loop-j.invariant.9 c.lowest-h.ensures.member) c.keep.ensures c.loop-j.invariant.5 c.loop-j.invariant.3 c.loop-j.invariant.1 (c.loop-j.invariant.2 ∙ c.front.auto.out) (members_first (number_of c.loop-j.hs) c.lowest-h.result c.lowest-h.ensures) (omega (arith, c.loop-j.invariant.7, c.front_words-links.ensures, front_bounds c.first_of-f.result c.size-m.result)) c.node-u.ensures.wrote, same_len_mid c.loop-j.at (length c.loop-j.out - c.loop-j.at) c.loop-j.out c.node-u.new.out c.node-u.auto.out, c.if-u-out.false)

pub branch-overflow_add-out-in-loop-j : goal.branch-overflow_add-out-in-loop-j
branch-overflow_add-out-in-loop-j t c = omega (arith, c.front_words-links.ensures, front_bounds c.first_of-f.result c.size-m.result, size_most (number_of c.heads-all.result), c.size-m.ensures.0, c.loop-j-test.true)

pub branch-offset_bounds-out-links : goal.branch-offset_bounds-out-links
branch-offset_bounds-out-links t c = omega (arith, c.front_words-links.ensures, front_bounds c.first_of-f.result c.size-m.result, size_most (number_of c.heads-all.result), c.size-m.ensures.0, c.loop-j-test.true)

pub branch-bounds-out-links : goal.branch-bounds-out-links
branch-bounds-out-links t c = omega (arith, same_len_mid c.loop-j.at (length c.loop-j.out - c.loop-j.at) c.loop-j.out c.node-u.new.out c.node-u.auto.out, c.loop-j.invariant.7, c.loop-j.invariant.1, c.loop-j-test.true)

pub branch-overflow_add-at-in-loop-j : goal.branch-overflow_add-at-in-loop-j
branch-overflow_add-at-in-loop-j t c = omega (arith, same_len_mid c.loop-j.at (length c.loop-j.out - c.loop-j.at) c.loop-j.out c.node-u.new.out c.node-u.auto.out, (c.loop-j.invariant.2 ∙ c.front.auto.out), bounds c.requires, c.if-u-out.false)

pub branch-without-next-requires : goal.branch-without-next-requires
branch-without-next-requires t c = c.lowest-h.ensures.small

pub branch-overflow_add-j : goal.branch-overflow_add-j
branch-overflow_add-j t c = omega (arith, size_most (number_of c.heads-all.result), c.size-m.ensures.0, c.loop-j-test.true)

pub branch-loop-j-smaller : goal.branch-loop-j-smaller
branch-loop-j-smaller t c = omega (arith, c.loop-j-test.true)

pub branch-loop-j-preserved : goal.branch-loop-j-preserved
branch-loop-j-preserved t c = (
  omega (arith, c.loop-j-test.true),
  simp length-set (omega (arith, same_len_mid c.loop-j.at (length c.loop-j.out - c.loop-j.at) c.loop-j.out c.node-u.new.out c.node-u.auto.out, c.loop-j.invariant.1, c.if-u-out.false)),
  simp length-set (same_len_mid c.loop-j.at (length c.loop-j.out - c.loop-j.at) c.loop-j.out c.node-u.new.out c.node-u.auto.out ∙ c.loop-j.invariant.2),
  c.node-u.ensures.kept.long ∙ c.loop-j.invariant.3,
  c.node-u.ensures.kept.cursors ∙ c.loop-j.invariant.4,
  kept_trans c.args.n c.args.cur.now c.loop-j.cur c.args.vis.now c.loop-j.vis c.node-u.new.vis c.loop-j.invariant.4 c.loop-j.invariant.5 c.node-u.ensures.kept.visits,
  (λ len e g fuel h. child_more g c.keep.new.next c.loop-j.cur c.loop-j.vis c.front.new.out c.loop-j.out c.node-u.new.out c.first_of-f.result (number_of c.heads-all.result) (number_of c.loop-j.hs) (members (number_of c.without-next.result)) c.lowest-h.result c.loop-j.j c.loop-j.at c.node-u.result _ c.first_of-f.ensures (width c.args.t.now c.args.ncols c.args.k c.lowest-h.result c.first_of-f.result c.head_arity.result c.first_of-f.ensures c.head_arity.ensures) c.loop-j.invariant.4 (member_small c.requires (number_of c.heads-all.result) (number_of c.loop-j.hs) c.lowest-h.result c.heads-all.ensures c.loop-j.invariant.9 c.lowest-h.ensures.member) c.keep.ensures c.loop-j.invariant.5 c.loop-j.invariant.3 c.loop-j.invariant.1 (c.loop-j.invariant.2 ∙ sym e) (members_next (number_of c.loop-j.hs) (number_of c.without-next.result) c.lowest-h.result c.lowest-h.ensures c.without-next.ensures) fuel c.front_words-links.result (front_is g c.first_of-f.result (number_of c.heads-all.result) c.size-m.result c.front_words-links.result c.size-m.ensures.0 c.front_words-links.ensures) h (omega (arith, c.loop-j.invariant.7, c.front_words-links.ensures, front_bounds c.first_of-f.result c.size-m.result)) c.node-u.ensures.wrote (c.loop-j.invariant.6 _ e g fuel h) (c.loop-j.invariant.8 ∙ c.size-m.ensures.0) (omega (arith, same_len_mid c.loop-j.at (length c.loop-j.out - c.loop-j.at) c.loop-j.out c.node-u.new.out c.node-u.auto.out, c.if-u-out.false))),
  omega (arith, c.loop-j.invariant.7),
  omega (arith, c.loop-j.invariant.8, ap length (members_next (number_of c.loop-j.hs) (number_of c.without-next.result) c.lowest-h.result c.lowest-h.ensures c.without-next.ensures)),
  left_among (number_of c.loop-j.hs) (number_of c.without-next.result) (number_of c.heads-all.result) c.lowest-h.result c.loop-j.invariant.9 c.without-next.ensures,
)

pub branch-shape_of-out : goal.branch-shape_of-out
branch-shape_of-out t c = (c.loop-j.invariant.2 ∙ c.front.auto.out)

pub branch-returns : goal.branch-returns
branch-returns t c = record { wrote = (λ g fuel h. node_end g fuel c.first_of-f.result (number_of c.heads-all.result) (number_of c.loop-j.hs) c.size-m.result c.args.out.now c.front.new.out _ _ _ c.first_of-f.ensures c.heads-all.ensures c.size-m.ensures.0 c.front.ensures (omega (arith, c.loop-j.invariant.8, c.loop-j-test.false)) (omega (arith, c.loop-j.invariant.1, (c.loop-j.invariant.2 ∙ c.front.auto.out))) (c.loop-j.invariant.6 _ (sym c.front.auto.out) g fuel h)); kept = record { cursors = c.loop-j.invariant.4; visits = c.loop-j.invariant.5; long = c.loop-j.invariant.3 } }

pub node-blank-b-requires : goal.node-blank-b-requires
node-blank-b-requires t c = (c.requires.few, c.requires.cursors, c.requires.ok.long, λ r l e. (c.requires.low r l, (cursor_within c.requires r l e).1))

pub node-overflow_add-result : goal.node-overflow_add-result
node-overflow_add-result t c = omega (arith, c.requires.links_fit)

pub node-returns-then-out-b : goal.node-returns-then-out-b
node-returns-then-out-b t c = record { wrote = (λ g fuel h. blank_short _ g c.blank-b.result c.blank-b.ensures fuel h c.if-out-b.true); kept = record { cursors = refl; visits = (λ r q h l. refl); long = refl } }

pub node-skips-requires : goal.node-skips-requires
node-skips-requires t c = omega (arith, c.if-out-b.false)

pub node-overflow_sub-ncols : goal.node-overflow_sub-ncols
node-overflow_sub-ncols t c = omega (arith, c.blank-b.ensures.most)

pub node-overflow_add-v : goal.node-overflow_add-v
node-overflow_add-v t c = omega (arith, c.requires.visits_fit, c.if-out-b.false)

pub node-overflow_add-base : goal.node-overflow_add-base
node-overflow_add-base t c = omega (arith, c.requires.links_fit, c.if-out-b.false)

pub node-offset_bounds-out-b : goal.node-offset_bounds-out-b
node-offset_bounds-out-b t c = omega (arith, c.requires.links_fit, c.if-out-b.false)

pub node-slice_bounds-visit-count : goal.node-slice_bounds-visit-count
node-slice_bounds-visit-count t c = omega (arith, c.skips.auto.out, c.if-out-b.false)

pub node-slice_bounds-visit-start : goal.node-slice_bounds-visit-start
node-slice_bounds-visit-start t c = omega (arith, c.skips.auto.out, c.if-out-b.false)

pub node-slice_bounds-visit-end : goal.node-slice_bounds-visit-end
node-slice_bounds-visit-end t c = omega (arith, c.skips.auto.out, c.if-out-b.false)

pub node-visit-u-requires : goal.node-visit-u-requires
node-visit-u-requires t c = (simp (length-take, length-drop) (omega (arith, c.skips.auto.out, c.if-out-b.false)), blank_given _ c.requires c.blank-b.result c.blank-b.ensures c.skips.new.out (omega (arith, c.if-out-b.false)) c.skips.ensures)

pub node-overflow_add-result-2 : goal.node-overflow_add-result-2
node-overflow_add-result-2 t c = omega (arith, blank_most _ c.requires c.blank-b.result c.blank-b.ensures c.skips.new.out (omega (arith, c.if-out-b.false)) c.skips.ensures c.visit-u.result c.visit-u.new.out c.visit-u.ensures.wrote, c.requires.links_fit)

pub node-shape_of-out : goal.node-shape_of-out
node-shape_of-out t c = same_len_mid c.blank-b.result (length c.skips.new.out - c.blank-b.result) c.skips.new.out c.visit-u.new.out c.visit-u.auto.out ∙ c.skips.auto.out

pub node-returns : goal.node-returns
node-returns t c = record { wrote = (λ g fuel h. blank_wrote _ g c.blank-b.result c.blank-b.ensures c.skips.new.out (omega (arith, c.if-out-b.false)) c.skips.ensures c.visit-u.result c.visit-u.new.out c.visit-u.ensures.wrote fuel h); kept = record { cursors = c.visit-u.ensures.kept.cursors; visits = c.visit-u.ensures.kept.visits; long = c.visit-u.ensures.kept.long } }

pub visit-returns-then-out-eq0 : goal.visit-returns-then-out-eq0
visit-returns-then-out-eq0 t c = record { wrote = (λ g fuel h. no_room _ _ _ _ c.if-out-eq0.true); kept = record { cursors = refl; visits = (λ r q h l. refl); long = refl } }

pub visit-first_in-r-requires : goal.visit-first_in-r-requires
visit-first_in-r-requires t c = c.requires.few

pub visit-default_leaf-requires : goal.visit-default_leaf-requires
visit-default_leaf-requires t c = c.requires.ok.whole

pub visit-shape_of-out-then-r-n : goal.visit-shape_of-out-then-r-n
visit-shape_of-out-then-r-n t c = c.default_leaf.auto.out

pub visit-returns-then-r-n : goal.visit-returns-then-r-n
visit-returns-then-r-n t c = record { wrote = (λ g fuel h. none_result g fuel _ _ _ h c.if-r-n.true c.first_in-r.ensures c.default_leaf.ensures); kept = record { cursors = refl; visits = (λ r q h l. refl); long = refl } }

pub visit-leaf-requires : goal.visit-leaf-requires
visit-leaf-requires t c = (leaving c.requires _ (omega (arith, c.first_in-r.ensures.most, c.if-r-n.false)) (c.first_in-r.ensures.there (omega (arith, c.first_in-r.ensures.most, c.if-r-n.false))), omega (arith, c.requires.links_fit))

pub visit-shape_of-out-then-ncols-eq0 : goal.visit-shape_of-out-then-ncols-eq0
visit-shape_of-out-then-ncols-eq0 t c = c.leaf.auto.out

pub visit-returns-then-ncols-eq0 : goal.visit-returns-then-ncols-eq0
visit-returns-then-ncols-eq0 t c = record { wrote = (λ g fuel h. leaf_result g fuel _ _ _ h (omega (arith, c.first_in-r.ensures.most, c.if-r-n.false)) c.first_in-r.ensures c.if-ncols-eq0.true c.leaf.ensures); kept = record { cursors = refl; visits = (λ r q h l. refl); long = refl } }

pub visit-real-requires : goal.visit-real-requires
visit-real-requires t c = (c.requires.few, c.requires.cursors, c.requires.ok.long, (λ r l e. c.requires.low r l), refl)

pub visit-column-kind-requires : goal.visit-column-kind-requires
visit-column-kind-requires t c = let k = cols c.requires (omega (arith, c.if-ncols-eq0.false)) in looking c.requires _ k.k k.rest k.is k.there c.real.ensures

pub visit-raise-requires : goal.visit-raise-requires
visit-raise-requires t c = let k = cols c.requires (omega (arith, c.if-ncols-eq0.false)) in (c.requires.few, c.requires.cursors, c.requires.visits, omega (arith, c.requires.visits_fit, c.if-out-eq0.false), c.requires.low, λ r l e. (real_cell c.requires _ k.k k.rest k.is c.real.ensures r l e).0)

pub visit-bounds-out-0 : goal.visit-bounds-out-0
visit-bounds-out-0 t c = omega (arith, c.if-out-eq0.false)

pub visit-overflow_sub-ncols : goal.visit-overflow_sub-ncols
visit-overflow_sub-ncols t c = omega (arith, c.if-ncols-eq0.false)

pub visit-overflow_add-v : goal.visit-overflow_add-v
visit-overflow_add-v t c = omega (arith, c.requires.visits_fit, c.if-out-eq0.false)

pub visit-overflow_add-base : goal.visit-overflow_add-base
visit-overflow_add-base t c = omega (arith, c.requires.links_fit, c.if-out-eq0.false)

pub visit-slice_bounds-node-count : goal.visit-slice_bounds-node-count
visit-slice_bounds-node-count t c = simp length-set (omega (arith, c.if-out-eq0.false))

pub visit-slice_bounds-node-start : goal.visit-slice_bounds-node-start
visit-slice_bounds-node-start t c = simp length-set (omega (arith, c.if-out-eq0.false))

pub visit-node-u-requires : goal.visit-node-u-requires
visit-node-u-requires t c = (simp (length-take, length-drop, length-set) (omega (arith, c.if-out-eq0.false)), skip_child c.real.new.re c.raise.new.cur c.raise.new.vis c.args.out.now [] c.column-kind.result 0 c.first_in-r.result c.real.ensures c.column-kind.ensures c.raise.ensures c.raise.auto.cur c.raise.auto.vis (omega (arith, c.if-ncols-eq0.false)) c.requires c.in_default.is _ (simp (length-take, length-drop, length-set) (omega (arith, c.if-out-eq0.false))))

pub visit-lower-requires : goal.visit-lower-requires
visit-lower-requires t c = (c.requires.few, omega (arith, c.requires.cursors, c.raise.auto.cur, ap length c.node-u.ensures.kept.cursors), λ r l e. lower_ok _ _ _ _ _ _ _ _ c.raise.ensures c.node-u.ensures.kept.cursors r l e)

pub visit-overflow_add-result : goal.visit-overflow_add-result
visit-overflow_add-result t c = omega (arith, skip_fits c.real.new.re c.raise.new.cur c.raise.new.vis c.args.out.now c.node-u.new.out c.column-kind.result c.node-u.result c.first_in-r.result c.real.ensures c.column-kind.ensures c.raise.ensures c.raise.auto.cur c.raise.auto.vis (omega (arith, c.if-ncols-eq0.false)) c.requires c.in_default.is (omega (arith, c.if-out-eq0.false)) c.node-u.ensures.wrote, c.requires.links_fit)

pub visit-shape_of-out-in_default : goal.visit-shape_of-out-in_default
visit-shape_of-out-in_default t c = same_len_mid 1 (length (set c.args.out.now 0 3) - 1) (set c.args.out.now 0 3) c.node-u.new.out c.node-u.auto.out ∙ length-set c.args.out.now 0 3

pub visit-returns-in_default : goal.visit-returns-in_default
visit-returns-in_default t c = record { wrote = (λ g fuel h. skip_result c.real.new.re c.raise.new.cur c.raise.new.vis c.args.out.now c.node-u.new.out c.column-kind.result c.node-u.result c.first_in-r.result c.real.ensures c.column-kind.ensures c.raise.ensures c.raise.auto.cur c.raise.auto.vis (omega (arith, c.if-ncols-eq0.false)) g fuel c.in_default.is (omega (arith, c.first_in-r.ensures.most, c.if-r-n.false)) c.first_in-r.ensures (omega (arith, c.if-out-eq0.false)) h c.node-u.ensures.wrote); kept = record { cursors = restored _ _ _ _ _ _ _ _ _ c.raise.ensures c.node-u.ensures.kept.cursors c.lower.ensures (c.lower.auto.cur ∙ ap length c.node-u.ensures.kept.cursors ∙ c.raise.auto.cur); visits = kept_through c.args.n c.args.v (member c.real.new.re) c.args.cur.now c.args.vis.now c.raise.new.cur c.raise.new.vis c.node-u.new.vis c.raise.ensures c.node-u.ensures.kept.visits; long = c.node-u.ensures.kept.long ∙ c.raise.auto.vis } }

pub visit-branch-u-requires : goal.visit-branch-u-requires
visit-branch-u-requires t c = (omega arith, branch_child c.real.new.re c.raise.new.cur c.raise.new.vis c.args.out.now [] c.column-kind.result 0 c.first_in-r.result c.real.ensures c.column-kind.ensures c.raise.ensures c.raise.auto.cur c.raise.auto.vis (omega (arith, c.if-ncols-eq0.false)) c.requires c.in-Some.k c.in-Some.is)

pub visit-lower-requires-2 : goal.visit-lower-requires-2
visit-lower-requires-2 t c = (c.requires.few, omega (arith, c.requires.cursors, c.raise.auto.cur, ap length c.branch-u.ensures.kept.cursors), λ r l e. lower_ok _ _ _ _ _ _ _ _ c.raise.ensures c.branch-u.ensures.kept.cursors r l e)

pub visit-shape_of-out : goal.visit-shape_of-out
visit-shape_of-out t c = c.branch-u.auto.out

pub visit-returns : goal.visit-returns
visit-returns t c = record { wrote = (λ g fuel h. branch_result c.real.new.re c.raise.new.cur c.raise.new.vis c.args.out.now c.branch-u.new.out c.column-kind.result c.branch-u.result c.first_in-r.result c.real.ensures c.column-kind.ensures c.raise.ensures c.raise.auto.cur c.raise.auto.vis (omega (arith, c.if-ncols-eq0.false)) g fuel c.in-Some.k c.in-Some.is (omega (arith, c.first_in-r.ensures.most, c.if-r-n.false)) c.first_in-r.ensures h c.branch-u.ensures.wrote); kept = record { cursors = restored _ _ _ _ _ _ _ _ _ c.raise.ensures c.branch-u.ensures.kept.cursors c.lower-2.ensures (c.lower-2.auto.cur ∙ ap length c.branch-u.ensures.kept.cursors ∙ c.raise.auto.cur); visits = kept_through c.args.n c.args.v (member c.real.new.re) c.args.cur.now c.args.vis.now c.raise.new.cur c.raise.new.vis c.branch-u.new.vis c.raise.ensures c.branch-u.ensures.kept.visits; long = c.branch-u.ensures.kept.long ∙ c.raise.auto.vis } }
