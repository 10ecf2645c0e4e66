use mathlib.Core.Path.{sym, ◌∙◌}
use native.Mathlib.Omega.{arith}
use Rattle.views.proofs.Edging.{start, turn, few, end}
use Rattle.views.proofs.frontier.frontier.Goals as goal

pub loop-left-init : goal.loop-left-init
loop-left-init c = λ g. start g _

pub overflow_cast-i : goal.overflow_cast-i
overflow_cast-i c = omega (arith, (let l = c.loop-left in turn c.requires _ l.at l.left l.m (l.invariant c.requires) c.loop-left-test.true).small)

pub has-requires : goal.has-requires
has-requires c = (let l = c.loop-left in turn c.requires _ l.at l.left l.m (l.invariant c.requires) c.loop-left-test.true).small

pub with-m-requires : goal.with-m-requires
with-m-requires c = (let l = c.loop-left in turn c.requires _ l.at l.left l.m (l.invariant c.requires) c.loop-left-test.true).small

pub part_end-at-requires : goal.part_end-at-requires
part_end-at-requires c = (let l = c.loop-left in turn c.requires _ l.at l.left l.m (l.invariant c.requires) c.loop-left-test.true).given

pub loop-left-smaller-then-has : goal.loop-left-smaller-then-has
loop-left-smaller-then-has c = omega (arith, (few _ _ _ _ _ ((let l = c.loop-left in turn c.requires _ l.at l.left l.m (l.invariant c.requires) c.loop-left-test.true).open_turn _ _ (sym c.has.ensures ∙ c.if-has.true) c.with-m.ensures c.part_end-at.ensures)), (let l = c.loop-left in turn c.requires _ l.at l.left l.m (l.invariant c.requires) c.loop-left-test.true).some c.part_end-at.result c.part_end-at.ensures)

pub loop-left-preserved-then-has : goal.loop-left-preserved-then-has
loop-left-preserved-then-has c = λ g. ((let l = c.loop-left in turn g _ l.at l.left l.m (l.invariant g) c.loop-left-test.true).open_turn _ _ (sym c.has.ensures ∙ c.if-has.true) c.with-m.ensures c.part_end-at.ensures)

pub cell_at-c-requires : goal.cell_at-c-requires
cell_at-c-requires c = (let l = c.loop-left in turn c.requires _ l.at l.left l.m (l.invariant c.requires) c.loop-left-test.true).see

pub opens-requires : goal.opens-requires
opens-requires c = λ h. c.requires.part.known.decoded.long

pub overflow_add-left : goal.overflow_add-left
overflow_add-left c = omega (arith, (few _ _ _ _ _ ((let l = c.loop-left in turn c.requires _ l.at l.left l.m (l.invariant c.requires) c.loop-left-test.true).kept_turn _ _ (sym c.has.ensures ∙ c.if-has.false) c.cell_at-c.ensures c.opens.ensures)))

pub overflow_add-at : goal.overflow_add-at
overflow_add-at c = omega (arith, (few _ _ _ _ _ ((let l = c.loop-left in turn c.requires _ l.at l.left l.m (l.invariant c.requires) c.loop-left-test.true).kept_turn _ _ (sym c.has.ensures ∙ c.if-has.false) c.cell_at-c.ensures c.opens.ensures)))

pub loop-left-smaller : goal.loop-left-smaller
loop-left-smaller c = omega (arith, (let l = c.loop-left in turn c.requires _ l.at l.left l.m (l.invariant c.requires) c.loop-left-test.true).see)

pub loop-left-preserved : goal.loop-left-preserved
loop-left-preserved c = λ g. ((let l = c.loop-left in turn g _ l.at l.left l.m (l.invariant g) c.loop-left-test.true).kept_turn _ _ (sym c.has.ensures ∙ c.if-has.false) c.cell_at-c.ensures c.opens.ensures)

pub returns : goal.returns
returns c = λ g. let l = c.loop-left in end g _ l.at l.left l.m (l.invariant g) (omega (arith, c.loop-left-test.false))
