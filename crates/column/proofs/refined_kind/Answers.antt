use Rattle.column.proofs.ColumnLaws.{kind_saw, plain_saw}
use Rattle.column.proofs.refined_kind.Goals as goal

pub refined-requires : goal.refined-requires
refined-requires c = c.requires

pub cell_kind-requires : goal.cell_kind-requires
cell_kind-requires c = c.requires

pub returns-then-refined : goal.returns-then-refined
returns-then-refined c = λ g. kind_saw g _ _ _ c.if-refined.true (c.refined.ensures g) (c.cell_kind.ensures g)

pub returns : goal.returns
returns c = λ g. plain_saw g _ _ c.if-refined.false (c.refined.ensures g)
