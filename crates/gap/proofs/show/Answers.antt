use mathlib.Core.Path.{sym, ◌∙◌}
use Prim.Native.Nat.{◌≤◌}
use native.Mathlib.Omega.{arith}
use lib.Seq.{length-take-le}
use Rattle.signature.specs.Limits.{booking_limit}
use Rattle.gap.proofs.Showing.{short, worded, shows, shows_none}
use Rattle.gap.proofs.show.Goals.{In_ok-m}
use Rattle.gap.proofs.show.Goals as goal

-- a booking's length at most
few : (c : In_ok-m) → c.in_ok-m.m ≤ booking_limit
few c = short (c.find.ensures c.requires.0) _ c.in_ok-m.was

pub slice_bounds-copy_from_slice-end : goal.slice_bounds-copy_from_slice-end
slice_bounds-copy_from_slice-end c = omega (arith, few c, c.requires.1)

pub slice_bounds-copy_from_slice-end-2 : goal.slice_bounds-copy_from_slice-end-2
slice_bounds-copy_from_slice-end-2 c = sym (length-take-le _ _ (omega (arith, few (goal.at.slice_bounds-copy_from_slice-end-2 c).In_ok-m, c.requires.1)))

pub slice_bounds-v-end : goal.slice_bounds-v-end
slice_bounds-v-end c = omega (arith, few (goal.at.slice_bounds-v-end c).In_ok-m, c.find.auto.v)

pub slice_bounds-copy_from_slice-end-3 : goal.slice_bounds-copy_from_slice-end-3
slice_bounds-copy_from_slice-end-3 c = sym (length-take-le _ _ (omega (arith, few (goal.at.slice_bounds-copy_from_slice-end-3 c).In_ok-m, c.find.auto.v)))

pub copy_from_slice-requires : goal.copy_from_slice-requires
copy_from_slice-requires c = let h = few (goal.at.copy_from_slice-requires c).In_ok-m in length-take-le c.in_ok-m.m c.args.witness.now (omega (arith, h, c.requires.1)) ∙ sym (length-take-le c.in_ok-m.m _ (omega (arith, h, c.find.auto.v)))

pub returns-in_err-m-clause-shows : goal.returns-in_err-m-clause-shows
returns-in_err-m-clause-shows c = rw c.from_residual.ensures λ g. shows_none g _ _ _ (c.find.ensures g) c.in_err-m.was

pub returns-clause-shows : goal.returns-clause-shows
returns-clause-shows c = λ g. shows g _ _ _ _ _ (c.find.ensures g) c.in_ok-m.was c.copy_from_slice.ensures.after

pub returns-clause-worded : goal.returns-clause-worded
returns-clause-worded c = worded (c.find.ensures c.requires.0) _ c.in_ok-m.was
