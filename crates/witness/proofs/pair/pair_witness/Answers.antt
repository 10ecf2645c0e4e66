use mathlib.Core.Path.{sym}
use native.Mathlib.Omega.{arith}
use lib.Seq.{length-take-le}
use Rattle.witness.proofs.Pairs.{given, none_of, row_of, found_of, fits_in}
use Rattle.witness.proofs.pair.pair_witness.Goals as goal

pub combine-requires : goal.combine-requires
combine-requires c = given c.requires _ (omega arith)

pub returns-in_err-n : goal.returns-in_err-n
returns-in_err-n c = λ g. rw c.from_residual.ensures (none_of g _ _ _ (omega arith) c.combine.ensures c.in_err-n.was)

pub slice_bounds-both-end : goal.slice_bounds-both-end
slice_bounds-both-end c = fits_in c.requires _ _ _ (omega arith) c.combine.ensures _ c.in_ok-n.was

pub slice_bounds-fill-end : goal.slice_bounds-fill-end
slice_bounds-fill-end c = sym (length-take-le _ _ (fits_in c.requires _ _ _ (omega arith) c.combine.ensures _ c.in_ok-n.was))

pub fill-requires : goal.fill-requires
fill-requires c = row_of c.requires _ _ _ (omega arith) c.combine.ensures _ c.in_ok-n.was

pub returns : goal.returns
returns c = λ g. found_of g _ _ _ (omega arith) c.combine.ensures _ c.in_ok-n.was _ _ c.fill.ensures
