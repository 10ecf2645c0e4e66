use native.Mathlib.Omega.{arith}
use Rattle.views.proofs.Opened.{found}
use Rattle.search.proofs.CellsFacts.{to_row, agree_first, agree_more}
use Rattle.search.proofs.cells.open_cells.Goals as goal

pub frontier-edge-requires : goal.frontier-edge-requires
frontier-edge-requires c = to_row c.requires

pub loop-c-init : goal.loop-c-init
loop-c-init c = (omega arith, λ g. (agree_first g _ c.full-opened.ensures, c.frontier-edge.ensures (to_row g)))

pub frontier-edge-requires-in-loop-c : goal.frontier-edge-requires-in-loop-c
frontier-edge-requires-in-loop-c c = to_row c.requires

pub loop-c-preserved : goal.loop-c-preserved
loop-c-preserved c = let l = c.loop-c in (
  omega (arith, c.loop-c-test.true),
  λ g. let S = c.stays.ensures g c.if-stays.false in (agree_more g l.opened l.c _ (l.invariant.1 g).0 S.1 (found g.r l.opened l.edge (l.invariant.1 g).1 l.c S.0) c.without-opened.ensures, c.frontier-edge-in-loop-c.ensures (to_row g)),
)

pub returns : goal.returns
returns c = λ g. (c.loop-c.invariant.1 g).0
