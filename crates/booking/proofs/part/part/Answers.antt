use mathlib.Core.Path.{◌≡◌, sym, ap, ◌∙◌}
use Prim.Native.Nat.{◌+◌, ◌-◌}
use native.Mathlib.Omega.{arith}
use lib.ListN.{take, drop}
use Rattle.booking.proofs.PartLaws.{found_part, found_none}
use Rattle.booking.proofs.part.part.Goals as goal

pub returns-in_default : goal.returns-in_default
returns-in_default c = let a = c.args in sym (found_none a.ss.now a.b.now a.place _ c.find.ensures c.in_default.not-Ok)

pub overflow_add-e : goal.overflow_add-e
overflow_add-e c = let a = c.args in omega (arith, (found_part a.ss.now a.b.now a.place _ c.find.ensures _ c.in-Ok.is).0, c.well_formed)

pub offset_bounds-b-place : goal.offset_bounds-b-place
offset_bounds-b-place c = let a = c.args in omega (arith, (found_part a.ss.now a.b.now a.place _ c.find.ensures _ c.in-Ok.is).0, c.well_formed)

pub slice_bounds-result-end-2 : goal.slice_bounds-result-end-2
slice_bounds-result-end-2 c = let a = c.args in omega (arith, (found_part a.ss.now a.b.now a.place _ c.find.ensures _ c.in-Ok.is).0)

pub returns : goal.returns
returns c = let a = c.args in
    let n : a.place + c.in-Ok.n - a.place ≡ c.in-Ok.n = omega arith in
    ap (λ k. take k (drop a.place a.b.now)) n ∙ sym (found_part a.ss.now a.b.now a.place _ c.find.ensures _ c.in-Ok.is).2
