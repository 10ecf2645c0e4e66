use Rattle.search.proofs.ChoiceFacts.{is_in, start_le, to_takes}
use Rattle.search.proofs.taker.takes_it.Goals as goal

pub slice_bounds-takes-count : goal.slice_bounds-takes-count
slice_bounds-takes-count c = start_le c.requires.0.table c.args.r c.requires.1 _ c.start_of-start.ensures

pub slice_bounds-takes-start : goal.slice_bounds-takes-start
slice_bounds-takes-start c = start_le c.requires.0.table c.args.r c.requires.1 _ c.start_of-start.ensures

pub takes-requires : goal.takes-requires
takes-requires c = to_takes c.requires.0 c.args.r c.start_of-start.result c.requires.1 c.start_of-start.ensures

pub returns : goal.returns
returns c = λ g. is_in _ _ _ _ c.if-not-has.false-raw c.has.ensures (c.takes.ensures (to_takes g c.args.r c.start_of-start.result c.requires.1 c.start_of-start.ensures))
