use mathlib.Core.Path.{sym, ◌∙◌}
use Prim.Native.Nat.{◌-◌}
use lib.ListN.{get_or}
use Rattle.rowset.specs.Member.{member}
use Rattle.column.proofs.ColumnLaws.{stays_allowed, stays_excluded}
use Rattle.column.proofs.stays.Goals as goal

pub returns-then-has : goal.returns-then-has
returns-then-has c = λ real e. let x = c.args in stays_allowed (member x.s.now) real x.a.now x.rows.now (get_or x.cur.now x.r 0 - 1) x.j x.r c.cell_of-c.result c.cell_of-c.ensures c.has-then-has.result e (sym c.has.ensures ∙ c.if-has.true) c.has-then-has.ensures

pub returns : goal.returns
returns c = λ real e. let x = c.args in stays_excluded (member x.s.now) real x.a.now x.rows.now (get_or x.cur.now x.r 0 - 1) x.j x.r c.cell_of-c.result c.cell_of-c.ensures e (sym c.has.ensures ∙ c.if-has.false)
