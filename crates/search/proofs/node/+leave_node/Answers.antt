use mathlib.Core.Path.{refl, sym, ◌∙◌}
use native.Mathlib.Omega.{arith}
use Rattle.views.proofs.Opened.{found}
use Rattle.search.specs.Branch.{row_at}
use Rattle.search.proofs.Bits.{bits_less, edge_bit}
use Rattle.search.proofs.ChoiceFacts.{row_placed, to_row}
use Rattle.search.proofs.LeaveFacts.{leave_start, child, branch_found, leave_next, leave_end}
use Rattle.search.proofs.NodeFacts.{free_found, nothing_found, to_leave, resized, resized_leave, found_back}
use Rattle.search.proofs.node.+leave_node.Goals as goal

pub leave-slice_bounds-frontier-count : goal.leave-slice_bounds-frontier-count
leave-slice_bounds-frontier-count t c = let g = c.requires in omega (arith, c.start_of-start.ensures, (row_placed g.branch.table c.args.r g.there).within)

pub leave-slice_bounds-frontier-start : goal.leave-slice_bounds-frontier-start
leave-slice_bounds-frontier-start t c = let g = c.requires in omega (arith, c.start_of-start.ensures, (row_placed g.branch.table c.args.r g.there).within)

pub leave-frontier-edge-requires : goal.leave-frontier-edge-requires
leave-frontier-edge-requires t c = let g = c.requires in to_row g.branch.table c.args.r g.there c.start_of-start.result c.start_of-start.ensures

pub leave-loop-edge-init : goal.leave-loop-edge-init
leave-loop-edge-init t c = (refl, refl, refl, refl, λ ql ol vl eq eo ev g. (leave_start g, c.frontier-edge.ensures (to_row g.branch.table c.args.r g.there c.start_of-start.result c.start_of-start.ensures)))

pub leave-node-requires : goal.leave-node-requires
leave-node-requires t c = let g = c.requires in let I = c.loop-edge.invariant.4 _ _ _ refl refl refl g in (omega (arith, g.fewer), resized (child g c.loop-edge.path c.loop-edge.opened c.best-c.result I.0 (found (row_at g.branch.table.rs c.args.r) c.loop-edge.opened c.loop-edge.edge I.1 c.best-c.result c.best-c.ensures.0)) _ _ _ _ _ (sym c.put_step.ensures) (omega arith) (sym c.loop-edge.invariant.1) (sym c.loop-edge.invariant.2) (sym c.loop-edge.invariant.3))

pub leave-returns-in-Some : goal.leave-returns-in-Some
leave-returns-in-Some t c = λ g. let I = c.loop-edge.invariant.4 _ _ _ refl refl refl g in branch_found g _ _ _ I.0 (found (row_at g.branch.table.rs c.args.r) c.loop-edge.opened c.loop-edge.edge I.1 c.best-c.result c.best-c.ensures.0) _ _ _ (found_back (sym c.put_step.ensures) (omega arith) (c.node.ensures (resized (child g c.loop-edge.path c.loop-edge.opened c.best-c.result I.0 (found (row_at g.branch.table.rs c.args.r) c.loop-edge.opened c.loop-edge.edge I.1 c.best-c.result c.best-c.ensures.0)) _ _ _ _ _ (sym c.put_step.ensures) (omega arith) (sym c.loop-edge.invariant.1) (sym c.loop-edge.invariant.2) (sym c.loop-edge.invariant.3)))) _ c.in-Some.is

pub leave-slice_bounds-frontier-count-in-loop-edge : goal.leave-slice_bounds-frontier-count-in-loop-edge
leave-slice_bounds-frontier-count-in-loop-edge t c = let g = c.requires in omega (arith, c.start_of-start.ensures, (row_placed g.branch.table c.args.r g.there).within)

pub leave-slice_bounds-frontier-start-in-loop-edge : goal.leave-slice_bounds-frontier-start-in-loop-edge
leave-slice_bounds-frontier-start-in-loop-edge t c = let g = c.requires in omega (arith, c.start_of-start.ensures, (row_placed g.branch.table c.args.r g.there).within)

pub leave-frontier-edge-requires-in-loop-edge : goal.leave-frontier-edge-requires-in-loop-edge
leave-frontier-edge-requires-in-loop-edge t c = let g = c.requires in to_row g.branch.table c.args.r g.there c.start_of-start.result c.start_of-start.ensures

pub leave-loop-edge-smaller : goal.leave-loop-edge-smaller
leave-loop-edge-smaller t c = let g = c.requires in let I = c.loop-edge.invariant.4 _ _ _ refl refl refl g in bits_less c.loop-edge.opened _ c.best-c.result 64 c.without-opened.ensures c.best-c.ensures.1 (edge_bit c.loop-edge.opened c.best-c.result (row_at g.branch.table.rs c.args.r) (found (row_at g.branch.table.rs c.args.r) c.loop-edge.opened c.loop-edge.edge I.1 c.best-c.result c.best-c.ensures.0))

pub leave-loop-edge-preserved : goal.leave-loop-edge-preserved
leave-loop-edge-preserved t c = (c.node.auto.path ∙ c.put_step.auto.path ∙ c.loop-edge.invariant.0, c.node.auto.q ∙ c.loop-edge.invariant.1, c.node.auto.both ∙ c.loop-edge.invariant.2, c.node.auto.v ∙ c.loop-edge.invariant.3, λ ql ol vl eq eo ev g. let I = c.loop-edge.invariant.4 ql ol vl eq eo ev g in (leave_next g _ _ _ I.0 (found (row_at g.branch.table.rs c.args.r) c.loop-edge.opened c.loop-edge.edge I.1 c.best-c.result c.best-c.ensures.0) _ _ _ (found_back (sym c.put_step.ensures) (omega arith) (c.node.ensures (resized (child g c.loop-edge.path c.loop-edge.opened c.best-c.result I.0 (found (row_at g.branch.table.rs c.args.r) c.loop-edge.opened c.loop-edge.edge I.1 c.best-c.result c.best-c.ensures.0)) _ _ _ _ _ (sym c.put_step.ensures) (omega arith) (eq ∙ sym c.loop-edge.invariant.1) (eo ∙ sym c.loop-edge.invariant.2) (ev ∙ sym c.loop-edge.invariant.3)))) _ c.without-opened.ensures c.in_default.is (c.node.auto.path ∙ c.put_step.auto.path ∙ c.loop-edge.invariant.0 ∙ g.branch.path_is.long), c.frontier-edge-in-loop-edge.ensures (to_row g.branch.table c.args.r g.there c.start_of-start.result c.start_of-start.ensures)))

pub leave-returns : goal.leave-returns
leave-returns t c = λ g. let I = c.loop-edge.invariant.4 _ _ _ refl refl refl g in leave_end g _ _ c.loop-edge.edge _ I.0 I.1 (omega (arith, c.loop-edge-test.false))

pub node-put-requires : goal.node-put-requires
node-put-requires t c = let g = c.requires in (omega (arith, ((c.look-seen.ensures g).taken _ _ c.in-Taken.is).there, g.branch.table.few), ((c.look-seen.ensures g).taken _ _ c.in-Taken.is).sized)

pub node-leave-requires : goal.node-leave-requires
node-leave-requires t c = let g = c.requires in (omega arith, resized_leave (to_leave g _ _ _ _ ((c.look-seen.ensures g).taken _ _ c.in-Taken.is) c.put.ensures) _ _ _ (sym c.look-seen.auto.q) (sym c.look-seen.auto.both) (sym c.look-seen.auto.v))

pub node-returns-in-Nothing : goal.node-returns-in-Nothing
node-returns-in-Nothing t c = λ g. nothing_found g _ ((c.look-seen.ensures g).nothing c.in-Nothing.is)

pub node-returns-in-Free : goal.node-returns-in-Free
node-returns-in-Free t c = λ g. free_found g _ _ ((c.look-seen.ensures g).free_value _ c.in-Free.is)

pub node-returns-in-Taken : goal.node-returns-in-Taken
node-returns-in-Taken t c = λ g. c.leave.ensures (resized_leave (to_leave g _ _ _ _ ((c.look-seen.ensures g).taken _ _ c.in-Taken.is) c.put.ensures) _ _ _ (sym c.look-seen.auto.q) (sym c.look-seen.auto.both) (sym c.look-seen.auto.v))
