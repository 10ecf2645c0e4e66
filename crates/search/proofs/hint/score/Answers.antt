use native.Mathlib.Omega.{arith}
use Rattle.search.proofs.ChoiceFacts.{row_placed}
use Rattle.search.proofs.HintFacts.{to_view, to_meeting}
use Rattle.search.proofs.hint.score.Goals as goal

pub slice_bounds-view-count : goal.slice_bounds-view-count
slice_bounds-view-count c = let g = c.requires in omega (arith, c.start_of-start.ensures, (row_placed g.0 c.args.r g.1).within)

pub slice_bounds-view-start : goal.slice_bounds-view-start
slice_bounds-view-start c = let g = c.requires in omega (arith, c.start_of-start.ensures, (row_placed g.0 c.args.r g.1).within)

pub view-requires : goal.view-requires
view-requires c = let g = c.requires in to_view g.0 c.args.r g.1 _ _ c.start_of-start.ensures (omega arith)

pub slice_bounds-view-count-2 : goal.slice_bounds-view-count-2
slice_bounds-view-count-2 c = let g = c.requires in omega (arith, c.start_of-start.ensures, (row_placed g.0 c.args.r g.1).within)

pub slice_bounds-view-start-2 : goal.slice_bounds-view-start-2
slice_bounds-view-start-2 c = let g = c.requires in omega (arith, c.start_of-start.ensures, (row_placed g.0 c.args.r g.1).within)

pub view-requires-2 : goal.view-requires-2
view-requires-2 c = let g = c.requires in to_view g.0 c.args.r g.1 _ _ c.start_of-start.ensures (omega arith)

pub weigh-requires : goal.weigh-requires
weigh-requires c = let g = c.requires in let D = (c.view.ensures (to_view g.0 c.args.r g.1 _ _ c.start_of-start.ensures (omega arith))).kept _ c.in-Some.is in let E = (c.view-2.ensures (to_view g.0 c.args.r g.1 _ _ c.start_of-start.ensures (omega arith))).kept _ c.in-Some-view.is in record { first = to_meeting g.0 c.args.r g.1 _ _ _ _ D.0 D.2; second = to_meeting g.0 c.args.r g.1 _ _ _ _ E.0 E.2 }
