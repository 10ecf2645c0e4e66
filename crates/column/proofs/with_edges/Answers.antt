use Prim.Native.Nat.{◌-◌}
use lib.ListN.{get_or}
use Rattle.sets.specs.Heads.{number_of}
use Rattle.column.proofs.ColumnLaws.{edges_in}
use Rattle.column.proofs.with_edges.Goals as goal

pub returns : goal.returns
returns c = λ real e. let x = c.args in edges_in real x.a.now x.rows.now (get_or x.cur.now x.r 0 - 1) x.r (number_of x.hs) c.cell_of-c.result c.cell_of-c.ensures e (number_of c.edges-es.result) (number_of c.join.result) c.edges-es.ensures c.join.ensures
