use mathlib.Core.Path.{◌≡◌, refl, sym, ap, ◌∙◌}
use mathlib.Core.List.{List, ◌++◌}
use Prim.Native.Nat.{ℕ, ◌<◌, min}
use native.Mathlib.Omega.{arith}
use lib.ListN.{length, take, drop, get_or}
use Rattle.std.proofs.lemmas.Grind.{common_steps}
use Rattle.tree.specs.Limits.{tree_limit}
use Rattle.writer.specs.Write.{tree_of_rows}
use Rattle.writer.proofs.StartLaws.{start_given, started}
use Rattle.writer.proofs.WriteLaws.{too_large, done, back_long, space_long}
use Rattle.writer.proofs.write.write.Goals.{After-fill, After-min-most}
use Rattle.writer.proofs.write.write.Goals as goal

-- the cursors at their first cells
zeroed : (c : After-fill) (r : ℕ) → r < c.args.n → get_or (c.fill.new.self ++ drop c.args.n c.args.cur.now) r 0 ≡ 0
zeroed c r l = grind (arith, common_steps)

cursors_kept : (c : After-fill) → length (c.fill.new.self ++ drop c.args.n c.args.cur.now) ≡ length c.args.cur.now
cursors_kept c = grind (arith, common_steps)

most_is : (c : After-min-most) → c.min-most.result ≡ min (min (length c.args.out.now) (length c.args.tree.now)) tree_limit
most_is c = c.min-most.ensures ∙ ap (λ (k : ℕ). min k tree_limit) c.min-room.ensures

pub first_rows-s-requires : goal.first_rows-s-requires
first_rows-s-requires c = c.requires.0.few

pub slice_bounds-node-end : goal.slice_bounds-node-end
slice_bounds-node-end c = omega (arith, (most_is (goal.at.slice_bounds-node-end c).After-min-most))

pub slice_bounds-node-end-2 : goal.slice_bounds-node-end-2
slice_bounds-node-end-2 c = space_long c.min-most.result c.args.tree.now (omega (arith, (most_is (goal.at.slice_bounds-node-end-2 c).After-min-most)))

pub node-u-requires : goal.node-u-requires
node-u-requires c = start_given c.requires.0 c.first_rows-s.result (c.fill.new.self ++ drop c.args.n c.args.cur.now) c.args.vis.now (omega (arith, c.requires.1)) (omega (arith, c.requires.2, (cursors_kept (goal.at.node-u-requires c).After-fill))) c.requires.3 c.first_rows-s.ensures (zeroed (goal.at.node-u-requires c).After-fill) (length (take c.min-most.result c.args.tree.now)) (omega (arith, (most_is (goal.at.node-u-requires c).After-min-most), space_long c.min-most.result c.args.tree.now (omega (arith, (most_is (goal.at.node-u-requires c).After-min-most)))))

pub shape_of-tree-then-u-most : goal.shape_of-tree-then-u-most
shape_of-tree-then-u-most c = back_long c.min-most.result c.node-u.new.out c.args.tree.now (omega (arith, (most_is (goal.at.shape_of-tree-then-u-most c).After-min-most))) c.node-u.auto.out

pub returns-then-u-most : goal.returns-then-u-most
returns-then-u-most c = record { tree_written = (λ g fuel h. rw (← (most_is (goal.at.returns-then-u-most c).After-min-most)) (too_large (tree_of_rows g fuel) c.min-most.result c.node-u.result (take c.min-most.result c.args.tree.now) c.node-u.new.out c.args.out.now (sym (space_long c.min-most.result c.args.tree.now (omega (arith, (most_is (goal.at.returns-then-u-most c).After-min-most))))) (started g c.first_rows-s.result (c.fill.new.self ++ drop c.args.n c.args.cur.now) c.args.vis.now (omega (arith, c.requires.1)) (omega (arith, c.requires.2, (cursors_kept (goal.at.returns-then-u-most c).After-fill))) c.requires.3 c.first_rows-s.ensures (zeroed (goal.at.returns-then-u-most c).After-fill) (length (take c.min-most.result c.args.tree.now)) (omega (arith, (most_is (goal.at.returns-then-u-most c).After-min-most), space_long c.min-most.result c.args.tree.now (omega (arith, (most_is (goal.at.returns-then-u-most c).After-min-most))))) c.node-u.result (take c.min-most.result c.args.tree.now) c.node-u.new.out refl c.node-u.ensures.wrote fuel h) c.if-u-most.true)); cur_len_unchanged = (ap length c.node-u.ensures.kept.cursors ∙ (cursors_kept (goal.at.returns-then-u-most c).After-fill), c.node-u.ensures.kept.long) }

pub shape_of-tree : goal.shape_of-tree
shape_of-tree c = back_long c.min-most.result c.node-u.new.out c.args.tree.now (omega (arith, (most_is (goal.at.shape_of-tree c).After-min-most))) c.node-u.auto.out

pub returns : goal.returns
returns c = record { tree_written = (λ g fuel h. let d = done (tree_of_rows g fuel) c.min-most.result c.node-u.result (take c.min-most.result c.args.tree.now) c.node-u.new.out c.args.out.now (sym (space_long c.min-most.result c.args.tree.now (omega (arith, (most_is (goal.at.returns c).After-min-most))))) (started g c.first_rows-s.result (c.fill.new.self ++ drop c.args.n c.args.cur.now) c.args.vis.now (omega (arith, c.requires.1)) (omega (arith, c.requires.2, (cursors_kept (goal.at.returns c).After-fill))) c.requires.3 c.first_rows-s.ensures (zeroed (goal.at.returns c).After-fill) (length (take c.min-most.result c.args.tree.now)) (omega (arith, (most_is (goal.at.returns c).After-min-most), space_long c.min-most.result c.args.tree.now (omega (arith, (most_is (goal.at.returns c).After-min-most))))) c.node-u.result (take c.min-most.result c.args.tree.now) c.node-u.new.out refl c.node-u.ensures.wrote fuel h) (drop c.min-most.result c.args.tree.now) (omega (arith, c.if-u-most.false)) in rw (← (most_is (goal.at.returns c).After-min-most)) (d.0, ap (λ (z : List ℕ). z ++ drop c.node-u.result c.args.out.now) c.copy_from_slice.ensures.after ∙ d.1)); cur_len_unchanged = (ap length c.node-u.ensures.kept.cursors ∙ (cursors_kept (goal.at.returns c).After-fill), c.node-u.ensures.kept.long) }
