use mathlib.Core.Path.{sym, subst}
use Prim.Native.Nat.{◌-◌}
use Rattle.cell.specs.declared.cell.Cell.{Cell}
use Rattle.column.specs.Column.{Seen}
use Rattle.column.proofs.ColumnLaws.{kind_from}
use Rattle.column.proofs.row_kind.Goals as goal

pub refined_kind-requires : goal.refined_kind-requires
refined_kind-requires c = subst (λ (x : Cell). Seen c.args.t.now x.tag) (sym c.cell_of-c.ensures) c.requires.1

pub returns : goal.returns
returns c = kind_from c.args.t.now c.args.a.now c.args.rows.now c.args.cur.now c.args.r _ c.cell_of-c.result c.cell_of-c.ensures c.refined_kind.ensures
