use Prim.Native.Nat.{◌≤◌}
use native.Mathlib.Omega.{arith}
use lib.ListN.{length}
use Rattle.search.proofs.ChoiceFacts.{row_placed}
use Rattle.search.proofs.CubeFacts.{r, row_there, to_view, view_dropped, to_combine, combine_dropped, combine_large, combine_kept}
use Rattle.search.proofs.cube.narrow.Goals.{After-start_of-start}
use Rattle.search.proofs.cube.narrow.Goals as goal

starts : (c : After-start_of-start) → c.start_of-start.result ≤ length c.args.a.now
starts c = let g = c.requires in omega (arith, c.start_of-start.ensures, (row_placed g.branch.table (r g) (row_there g)).within)

pub slice_bounds-view-count : goal.slice_bounds-view-count
slice_bounds-view-count c = starts c

pub slice_bounds-view-start : goal.slice_bounds-view-start
slice_bounds-view-start c = starts c

pub view-requires : goal.view-requires
view-requires c = to_view c.requires _ _ c.start_of-start.ensures (omega arith)

pub returns-in_err-view : goal.returns-in_err-view
returns-in_err-view c = λ g. rw c.from_residual.ensures (view_dropped g _ ((c.view.ensures (to_view g _ _ c.start_of-start.ensures (omega arith))).dropped c.in_err-view.was))

pub combine-requires : goal.combine-requires
combine-requires c = let g = c.requires in let W = (c.view.ensures (to_view g _ _ c.start_of-start.ensures (omega arith))).kept _ c.in_ok-view.was in to_combine g _ _ W.0 W.2

pub returns-in_err-w : goal.returns-in_err-w
returns-in_err-w c = λ g. let W = (c.view.ensures (to_view g _ _ c.start_of-start.ensures (omega arith))).kept _ c.in_ok-view.was in rw c.from_residual-in_err-w.ensures (combine_dropped g _ _ W.0 W.2 _ _ (c.combine.ensures (to_combine g _ _ W.0 W.2)) _ c.in_err-w.was)

pub returns-then-w-gt-CUBE_ROOM : goal.returns-then-w-gt-CUBE_ROOM
returns-then-w-gt-CUBE_ROOM c = λ g. let W = (c.view.ensures (to_view g _ _ c.start_of-start.ensures (omega arith))).kept _ c.in_ok-view.was in combine_large g _ _ W.0 W.2 _ _ (c.combine.ensures (to_combine g _ _ W.0 W.2)) _ c.in_ok-w.was _ c.if-w-gt-CUBE_ROOM.true

pub returns : goal.returns
returns c = λ g. let W = (c.view.ensures (to_view g _ _ c.start_of-start.ensures (omega arith))).kept _ c.in_ok-view.was in combine_kept g _ _ W.0 W.2 _ _ (c.combine.ensures (to_combine g _ _ W.0 W.2)) _ c.in_ok-w.was _ (omega (arith, c.if-w-gt-CUBE_ROOM.false)) c.copy.ensures
