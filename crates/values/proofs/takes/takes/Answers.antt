use mathlib.Core.Path.{refl, ap, sym, ◌∙◌}
use Prim.Native.Nat.{ℕ}
use native.Mathlib.Omega.{arith}
use Rattle.signature.proofs.Booleans.{not_true, not_false}
use Rattle.cell.specs.Cursor.{next_of}
use Rattle.values.proofs.Taking.{start, front, end}
use Rattle.values.proofs.takes.takes.Goals as goal

pub loop-c-init : goal.loop-c-init
loop-c-init c = λ g. start g

pub look-p-requires : goal.look-p-requires
look-p-requires c = (front c.requires c.loop-c.y c.loop-c.c-index (c.loop-c.invariant c.requires) c.loop-c-test.true _ _ refl refl).see

pub allows-requires : goal.allows-requires
allows-requires c = let g = c.requires in (g.known.decoded.long, (front g c.loop-c.y c.loop-c.c-index (c.loop-c.invariant g) c.loop-c-test.true c.look-p.result _ c.look-p.ensures refl).near)

pub returns-then-not-allows : goal.returns-then-not-allows
returns-then-not-allows c = λ g. sym ((front g c.loop-c.y c.loop-c.c-index (c.loop-c.invariant g) c.loop-c-test.true c.look-p.result _ c.look-p.ensures refl).no (sym c.allows.ensures ∙ not_true _ c.if-not-allows.true-raw))

pub head_arity-n-requires : goal.head_arity-n-requires
head_arity-n-requires c = let g = c.requires in (g.known.decoded.long, (front g c.loop-c.y c.loop-c.c-index (c.loop-c.invariant g) c.loop-c-test.true c.look-p.result _ c.look-p.ensures refl).head)

pub next-y-requires : goal.next-y-requires
next-y-requires c =
    let f = (front c.requires c.loop-c.y c.loop-c.c-index (c.loop-c.invariant c.requires) c.loop-c-test.true c.look-p.result _ c.look-p.ensures refl) in
    (omega (arith, f.fit, f.few, c.head_arity-n.ensures), omega (arith, f.at_most))

pub loop-c-preserved : goal.loop-c-preserved
loop-c-preserved c = λ g. (front g c.loop-c.y c.loop-c.c-index (c.loop-c.invariant g) c.loop-c-test.true c.look-p.result _ c.look-p.ensures refl).yes (sym c.allows.ensures ∙ not_false _ c.if-not-allows.false-raw) c.next-y.result (c.next-y.ensures ∙ ap (λ (n : ℕ). next_of c.loop-c.y c.look-p.result.tag n) c.head_arity-n.ensures)

pub returns : goal.returns
returns c = λ g. end g c.loop-c.y c.loop-c.c-index (c.loop-c.invariant g) c.loop-c-test.false
