use mathlib.Core.Path.{◌≡◌}
use mathlib.Core.Bool.{true}
use Prim.Native.Nat.{◌-◌, ◌≤◌, ◌<◌}
use Rattle.sets.specs.Heads.{number_of}
use Rattle.rowset.specs.Member.{member}
use Rattle.column.specs.Column.{edge_of}
use Rattle.column.proofs.ColumnLaws.{EndsOf}
use Rattle.column.proofs.ends.Given as goal

abbrev pub invariant-loop-r : goal.invariant-loop-r
invariant-loop-r l = (l.r ≤ l.n) × (l.r < l.n → member l.re l.r ≡ true) × EndsOf (edge_of l.a l.rows (member l.re) l.cur) l.r (number_of l.hs)

abbrev pub decreases-loop-r : goal.decreases-loop-r
decreases-loop-r l = l.n - l.r
