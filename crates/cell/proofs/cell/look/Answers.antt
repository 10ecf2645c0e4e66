use mathlib.Core.Path.{ap}
use borrow.Author.Tests.{lt-ltb, le-ltb}
use native.Mathlib.Omega.{arith}
use Rattle.sets.specs.declared.heads.Heads.{Heads}
use Rattle.cell.proofs.cell.look.Goals as goal

pub returns-then-c-gt0 : goal.returns-then-c-gt0
returns-then-c-gt0 c = rw (lt-ltb _ _ c.if-c-gt0.true) (ap (λ (s : Heads). record { tag = 512; vars = 0; allowed = s }) c.all.ensures)

pub cell_at-requires : goal.cell_at-requires
cell_at-requires c = omega (arith, c.requires, c.if-c-gt0.false)

pub returns : goal.returns
returns c = rw (le-ltb _ _ c.if-c-gt0.false) c.cell_at.ensures
