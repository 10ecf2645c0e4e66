use mathlib.Core.Path.{refl, sym, ap, ◌∙◌}
use Prim.Native.Nat.{◌≤◌}
use native.Mathlib.Omega.{arith}
use lib.ListN.{length, length-set, length-take, length-drop}
use lib.Seq.{length-take-le}
use Rattle.run.proofs.WalkLaws.{few_words, here_first, parts_of, broken_here, default_here, hit_here, ahead, here_next}
use Rattle.run.proofs.walk_in.Goals.{In-On}
use Rattle.run.proofs.walk_in.Goals as goal

-- what a step on tells
on : (c : In-On) → (1 ≤ c.in-On.d) × (c.in-On.d ≤ length c.loop-p.t.now) × (1 ≤ c.in-On.m) × (c.in-On.m ≤ length c.loop-p.b.now)
on c = let l = c.loop-p in
    ahead (l.invariant.6 c.requires.0) l.invariant.5 c.at_node-s.result c.at_node-s.ensures c.in-On.d c.in-On.m c.in-On.is

pub loop-p-init : goal.loop-p-init
loop-p-init c = (omega arith, omega arith, few_words c.requires.0, c.requires.1, refl, omega arith, λ k. here_first k c.args.tree.now _)

pub at_node-s-requires : goal.at_node-s-requires
at_node-s-requires c = let l = c.loop-p in parts_of (l.invariant.6 c.requires.0)

pub shape_of-visits-in-Broken : goal.shape_of-visits-in-Broken
shape_of-visits-in-Broken c = c.loop-p.invariant.4

pub returns-in-Broken : goal.returns-in-Broken
returns-in-Broken c = λ k. let l = c.loop-p in broken_here (l.invariant.6 k) l.invariant.5 c.at_node-s.result c.at_node-s.ensures c.in-Broken.is

pub shape_of-visits-in-Default : goal.shape_of-visits-in-Default
shape_of-visits-in-Default c = c.loop-p.invariant.4

pub returns-in-Default : goal.returns-in-Default
returns-in-Default c = λ k. let l = c.loop-p in ap (λ z. (0, z)) c.no_rule.ensures ∙ default_here (l.invariant.6 k) l.invariant.5 c.at_node-s.result c.at_node-s.ensures c.in-Default.p c.in-Default.is

pub slice_bounds-hit-end-in-Hit : goal.slice_bounds-hit-end-in-Hit
slice_bounds-hit-end-in-Hit c = let l = c.loop-p in sym (length-take-le l.n l.visits (omega arith))

pub shape_of-visits-in-Hit : goal.shape_of-visits-in-Hit
shape_of-visits-in-Hit c = c.loop-p.invariant.4

pub returns-in-Hit : goal.returns-in-Hit
returns-in-Hit c = λ k. let l = c.loop-p in c.hit.ensures ∙ hit_here (l.invariant.6 k) l.invariant.5 c.at_node-s.result c.at_node-s.ensures c.in-Hit.is

pub overflow_cast-visits : goal.overflow_cast-visits
overflow_cast-visits c = omega (arith, on c)

pub offset_bounds-visits-n : goal.offset_bounds-visits-n
offset_bounds-visits-n c = omega (arith, on c)

pub bounds-visits-n : goal.bounds-visits-n
bounds-visits-n c = omega (arith, on c)

pub overflow_add-n : goal.overflow_add-n
overflow_add-n c = omega (arith, on c)

pub offset_bounds-t-d : goal.offset_bounds-t-d
offset_bounds-t-d c = omega (arith, on c)

pub slice_bounds-t-count : goal.slice_bounds-t-count
slice_bounds-t-count c = omega (arith, on c)

pub slice_bounds-t-start : goal.slice_bounds-t-start
slice_bounds-t-start c = omega (arith, on c)

pub slice_bounds-t-end : goal.slice_bounds-t-end
slice_bounds-t-end c = omega (arith, on c)

pub overflow_add-node : goal.overflow_add-node
overflow_add-node c = omega (arith, on (goal.at.overflow_add-node c).In-On)

pub offset_bounds-b-m : goal.offset_bounds-b-m
offset_bounds-b-m c = omega (arith, on (goal.at.offset_bounds-b-m c).In-On)

pub slice_bounds-b-count : goal.slice_bounds-b-count
slice_bounds-b-count c = omega (arith, on (goal.at.slice_bounds-b-count c).In-On)

pub slice_bounds-b-start : goal.slice_bounds-b-start
slice_bounds-b-start c = omega (arith, on (goal.at.slice_bounds-b-start c).In-On)

pub slice_bounds-b-end : goal.slice_bounds-b-end
slice_bounds-b-end c = omega (arith, on (goal.at.slice_bounds-b-end c).In-On)

pub overflow_add-place : goal.overflow_add-place
overflow_add-place c = omega (arith, on (goal.at.overflow_add-place c).In-On)

pub loop-p-smaller : goal.loop-p-smaller
loop-p-smaller c = simp (length-take, length-drop) (omega (arith, on (goal.at.loop-p-smaller c).In-On))

pub loop-p-preserved : goal.loop-p-preserved
loop-p-preserved c = let l = c.loop-p in (
  omega (arith, on (goal.at.loop-p-preserved c).In-On),
  simp (length-take, length-drop) (omega (arith, on (goal.at.loop-p-preserved c).In-On)),
  l.invariant.2,
  rw length-set l.invariant.3,
  rw length-set l.invariant.4,
  simp (length-take, length-drop) (omega (arith, on (goal.at.loop-p-preserved c).In-On)),
  λ k. here_next (l.invariant.6 k) l.invariant.5 c.at_node-s.result c.at_node-s.ensures c.in-On.d c.in-On.m c.in-On.is (omega (arith, on (goal.at.loop-p-preserved c).In-On)),
)
