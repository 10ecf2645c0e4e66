-- The rows that a gap escapes.
use Rattle.std.specs.Prelude.{List, map}
use Rattle.signature.specs.Signature.{Signature}
use Rattle.row.specs.Row.{Row}
use Rattle.table.specs.Rule.{Rule}
use Rattle.indexing.specs.Indexing.{rows_all}

-- the rows of all rules, without the rules' numbers and plans
abbrev pub rows_in : Signature → List Rule → List Row
rows_in sig rs = map (λ e. e.row) (rows_all sig rs)
