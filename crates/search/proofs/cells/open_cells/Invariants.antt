use Prim.Native.Nat.{◌≤◌}
use Rattle.views.specs.Write.{Frontier}
use Rattle.search.specs.Cells.{GivenBeside, AgreeBeside}
use Rattle.search.proofs.CellsFacts.{to_row}
use Rattle.search.proofs.cells.open_cells.Given as goal

abbrev pub invariant-loop-c : goal.invariant-loop-c
invariant-loop-c l = (l.c ≤ 64) × ((g : GivenBeside l.t l.row l.q) → AgreeBeside g l.opened × Frontier (to_row g) l.opened l.edge)
