use mathlib.Core.Path.{sym, ◌∙◌}
use mathlib.Core.Bool.{true}
use Prim.Native.Nat.{◌-◌}
use native.Mathlib.Omega.{arith}
use Rattle.signature.proofs.Tests.{true≢false}
use Rattle.column.proofs.ColumnLaws.{seen_at, none_next, column_none, column_some, none_seen}
use Rattle.column.proofs.column.Goals as goal

pub first_in-r-requires : goal.first_in-r-requires
first_in-r-requires c = c.requires.few

pub loop-r-init : goal.loop-r-init
loop-r-init c = let f = c.first_in-r.ensures in (f.most, f.there, λ g q l e. true≢false (sym e ∙ f.before q l))

pub row_kind-x-requires : goal.row_kind-x-requires
row_kind-x-requires c = let g = c.requires in let l = c.loop-r in ((omega (arith, g.cursors), omega (arith, g.long), g.cell l.r c.loop-r-test.true (l.invariant.1 c.loop-r-test.true)), seen_at g l.r c.loop-r-test.true (l.invariant.1 c.loop-r-test.true))

pub returns-then-is_some : goal.returns-then-is_some
returns-then-is_some c = λ g. let l = c.loop-r in let m = c.loop-r-test.true in column_some _ _ _ _ _ _ _ l.r c.row_kind-x.result m (l.invariant.1 m) (c.row_kind-x.ensures (seen_at g l.r m (l.invariant.1 m))) (sym c.is_some.ensures ∙ c.if-is_some.true)

pub overflow_add-r : goal.overflow_add-r
overflow_add-r c = omega (arith, c.requires.few)

pub next_in-r-requires : goal.next_in-r-requires
next_in-r-requires c = (omega arith, c.requires.few)

pub loop-r-smaller : goal.loop-r-smaller
loop-r-smaller c = omega (arith, c.next_in-r.ensures.least)

pub loop-r-preserved : goal.loop-r-preserved
loop-r-preserved c = let x = c.next_in-r.ensures in let l = c.loop-r in let m = c.loop-r-test.true in let e = c.args in (x.most, x.there, λ g. none_next g.known.sig e.a.now e.rows.now e.re.now e.cur.now g.k _ l.r _ _ (l.invariant.2 g) (c.row_kind-x.ensures (seen_at g l.r m (l.invariant.1 m))) (none_seen c.row_kind-x.result (sym c.is_some.ensures ∙ c.if-is_some.false)) x)

pub returns : goal.returns
returns c = λ g. column_none _ _ _ _ _ _ _ _ c.loop-r-test.false (c.loop-r.invariant.2 g)
