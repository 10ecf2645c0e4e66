use mathlib.Core.Path.{refl}
use native.Mathlib.Omega.{arith}
use Rattle.store.proofs.ChangeFacts.{take_reads, take_fits, take_count, take_is}
use Rattle.store.proofs.change.take_out.Goals as goal

pub overflow_add-d : goal.overflow_add-d
overflow_add-d c = let g = c.requires in omega (arith, (take_reads g).within)

pub offset_bounds-table-at : goal.offset_bounds-table-at
offset_bounds-table-at c = let g = c.requires in omega (arith, (take_reads g).within)

pub bounds-table-at : goal.bounds-table-at
bounds-table-at c = let g = c.requires in omega (arith, (take_reads g).within, g.holds.long)

pub overflow_cast-d : goal.overflow_cast-d
overflow_cast-d c = let g = c.requires in omega (arith, (take_reads g).within, (take_reads g).length_is)

pub overflow_add-d-2 : goal.overflow_add-d-2
overflow_add-d-2 c = let g = c.requires in omega (arith, (take_reads g).within, (take_reads g).length_is)

pub remove-requires : goal.remove-requires
remove-requires c = let g = c.requires in let q = c.end-behind.ensures g.rs g.holds in (omega (arith, q, (take_fits g).0), omega (arith, q, (take_fits g).1, g.holds.long))

pub overflow_sub-table : goal.overflow_sub-table
overflow_sub-table c = let g = c.requires in omega (arith, take_count g c.remove.new.s _ _ (c.end-behind.ensures g.rs g.holds) refl c.remove.ensures)

pub returns : goal.returns
returns c = λ g. take_is g c.remove.new.s _ _ (c.end-behind.ensures g.rs g.holds) refl c.remove.ensures
