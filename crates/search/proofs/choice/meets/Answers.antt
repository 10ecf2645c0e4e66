use Rattle.search.proofs.ChoiceFacts.{is_in, start_le, two_rows}
use Rattle.search.proofs.choice.meets.Goals as goal

pub slice_bounds-rows_meet-count : goal.slice_bounds-rows_meet-count
slice_bounds-rows_meet-count c = start_le c.requires.0.table c.args.r c.requires.1 _ c.start_of-start.ensures

pub slice_bounds-rows_meet-start : goal.slice_bounds-rows_meet-start
slice_bounds-rows_meet-start c = start_le c.requires.0.table c.args.r c.requires.1 _ c.start_of-start.ensures

pub rows_meet-requires : goal.rows_meet-requires
rows_meet-requires c = two_rows c.requires.0 c.args.r c.start_of-start.result c.requires.1 c.start_of-start.ensures

pub returns : goal.returns
returns c = λ g. is_in _ _ _ _ c.if-not-has.false-raw c.has.ensures (c.rows_meet.ensures (two_rows g c.args.r c.start_of-start.result c.requires.1 c.start_of-start.ensures))
