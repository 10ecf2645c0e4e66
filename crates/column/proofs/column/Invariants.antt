use mathlib.Core.Path.{◌≡◌}
use mathlib.Core.Bool.{true}
use Prim.Native.Nat.{◌-◌, ◌≤◌, ◌<◌}
use Rattle.rowset.specs.Member.{member}
use Rattle.column.specs.Column.{Looking}
use Rattle.column.proofs.ColumnLaws.{NoneRefines}
use Rattle.column.proofs.column.Given as goal

abbrev pub invariant-loop-r : goal.invariant-loop-r
invariant-loop-r l = (l.r ≤ l.n) × (l.r < l.n → member l.re l.r ≡ true) × ((g : Looking l.t l.a l.rows l.n l.re l.cur) → NoneRefines g.known.sig l.a l.rows l.re l.cur g.k l.r)

abbrev pub decreases-loop-r : goal.decreases-loop-r
decreases-loop-r l = l.n - l.r
