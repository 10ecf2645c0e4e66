use mathlib.Core.Path.{refl, sym, subst, ◌∙◌}
use native.Mathlib.Omega.{arith}
use Rattle.sets.proofs.HeadSets.{empty_is, some_is}
use Rattle.views.proofs.Writing.{Now, start, turn, whole, out_at, end, read_fits}
use Rattle.views.proofs.view.view.Goals as goal

pub loop-todo-init : goal.loop-todo-init
loop-todo-init c = (refl, λ g. start g _ _)

pub cell_at-c-requires : goal.cell_at-c-requires
cell_at-c-requires c = (let l = c.loop-todo in turn c.requires _ _ l.at l.n l.todo l.out (l.invariant.1 c.requires) c.loop-todo-test.true).see

pub overflow_cast-i : goal.overflow_cast-i
overflow_cast-i c = omega (arith, (let l = c.loop-todo in turn c.requires _ _ l.at l.n l.todo l.out (l.invariant.1 c.requires) c.loop-todo-test.true).small)

pub has-requires : goal.has-requires
has-requires c = (let l = c.loop-todo in turn c.requires _ _ l.at l.n l.todo l.out (l.invariant.1 c.requires) c.loop-todo-test.true).small

pub outside-rest-requires : goal.outside-rest-requires
outside-rest-requires c = (let l = c.loop-todo in turn c.requires _ _ l.at l.n l.todo l.out (l.invariant.1 c.requires) c.loop-todo-test.true).cell c.cell_at-c.result c.cell_at-c.ensures

pub shape_of-out-then-is_empty : goal.shape_of-out-then-is_empty
shape_of-out-then-is_empty c = c.loop-todo.invariant.0

pub returns-then-is_empty : goal.returns-then-is_empty
returns-then-is_empty c = λ g. out_at g _ _ _ ((let l = c.loop-todo in turn g _ _ l.at l.n l.todo l.out (l.invariant.1 g) c.loop-todo-test.true).none_there _ _ _ (sym c.has.ensures ∙ c.if-has.true) c.cell_at-c.ensures refl c.outside-rest.ensures (empty_is _ c.is_empty.ensures c.if-is_empty.true))

pub put-requires : goal.put-requires
put-requires c = (omega (arith, (let l = c.loop-todo in turn c.requires _ _ l.at l.n l.todo l.out (l.invariant.1 c.requires) c.loop-todo-test.true).room, c.loop-todo.invariant.0), (let l = c.loop-todo in turn c.requires _ _ l.at l.n l.todo l.out (l.invariant.1 c.requires) c.loop-todo-test.true).tag_fits _ _ _ c.cell_at-c.ensures c.outside-rest.ensures)

pub overflow_add-n : goal.overflow_add-n
overflow_add-n c = omega (arith, (let l = c.loop-todo in turn c.requires _ _ l.at l.n l.todo l.out (l.invariant.1 c.requires) c.loop-todo-test.true).room)

pub part_end-at-requires : goal.part_end-at-requires
part_end-at-requires c = (let l = c.loop-todo in turn c.requires _ _ l.at l.n l.todo l.out (l.invariant.1 c.requires) c.loop-todo-test.true).given

pub loop-todo-smaller-then-has : goal.loop-todo-smaller-then-has
loop-todo-smaller-then-has c = omega (arith, ((whole _ _ _ _ _ _ _ (subst (Now c.requires _ _ _ _ _) (sym c.put.ensures) ((let l = c.loop-todo in turn c.requires _ _ l.at l.n l.todo l.out (l.invariant.1 c.requires) c.loop-todo-test.true).open_turn _ _ _ _ (sym c.has.ensures ∙ c.if-has.true) c.cell_at-c.ensures refl c.outside-rest.ensures (some_is _ c.is_empty.ensures c.if-is_empty.false) c.part_end-at.ensures))).1), (let l = c.loop-todo in turn c.requires _ _ l.at l.n l.todo l.out (l.invariant.1 c.requires) c.loop-todo-test.true).some c.part_end-at.result c.part_end-at.ensures)

pub loop-todo-preserved-then-has : goal.loop-todo-preserved-then-has
loop-todo-preserved-then-has c = (c.put.auto.out ∙ c.loop-todo.invariant.0, λ g. (subst (Now g _ _ _ _ _) (sym c.put.ensures) ((let l = c.loop-todo in turn g _ _ l.at l.n l.todo l.out (l.invariant.1 g) c.loop-todo-test.true).open_turn _ _ _ _ (sym c.has.ensures ∙ c.if-has.true) c.cell_at-c.ensures refl c.outside-rest.ensures (some_is _ c.is_empty.ensures c.if-is_empty.false) c.part_end-at.ensures)))

pub put-requires-in-loop-todo : goal.put-requires-in-loop-todo
put-requires-in-loop-todo c = (omega (arith, (let l = c.loop-todo in turn c.requires _ _ l.at l.n l.todo l.out (l.invariant.1 c.requires) c.loop-todo-test.true).room, c.loop-todo.invariant.0), read_fits c.args.row.now (λ j. (c.shared_slice_known-2-1.given j).fits) _ _ c.cell_at-c.ensures)

pub overflow_add-n-in-loop-todo : goal.overflow_add-n-in-loop-todo
overflow_add-n-in-loop-todo c = omega (arith, (let l = c.loop-todo in turn c.requires _ _ l.at l.n l.todo l.out (l.invariant.1 c.requires) c.loop-todo-test.true).room)

pub opens-requires : goal.opens-requires
opens-requires c = λ h. c.requires.given.part.known.decoded.long

pub overflow_add-todo : goal.overflow_add-todo
overflow_add-todo c = omega (arith, ((whole _ _ _ _ _ _ _ (subst (Now c.requires _ _ _ _ _) (sym c.put-in-loop-todo.ensures) ((let l = c.loop-todo in turn c.requires _ _ l.at l.n l.todo l.out (l.invariant.1 c.requires) c.loop-todo-test.true).kept_turn _ _ (sym c.has.ensures ∙ c.if-has.false) c.cell_at-c.ensures c.opens.ensures))).1))

pub overflow_add-at : goal.overflow_add-at
overflow_add-at c = omega (arith, ((whole _ _ _ _ _ _ _ (subst (Now c.requires _ _ _ _ _) (sym c.put-in-loop-todo.ensures) ((let l = c.loop-todo in turn c.requires _ _ l.at l.n l.todo l.out (l.invariant.1 c.requires) c.loop-todo-test.true).kept_turn _ _ (sym c.has.ensures ∙ c.if-has.false) c.cell_at-c.ensures c.opens.ensures))).1))

pub loop-todo-smaller : goal.loop-todo-smaller
loop-todo-smaller c = omega (arith, (let l = c.loop-todo in turn c.requires _ _ l.at l.n l.todo l.out (l.invariant.1 c.requires) c.loop-todo-test.true).see)

pub loop-todo-preserved : goal.loop-todo-preserved
loop-todo-preserved c = (c.put-in-loop-todo.auto.out ∙ c.loop-todo.invariant.0, λ g. (subst (Now g _ _ _ _ _) (sym c.put-in-loop-todo.ensures) ((let l = c.loop-todo in turn g _ _ l.at l.n l.todo l.out (l.invariant.1 g) c.loop-todo-test.true).kept_turn _ _ (sym c.has.ensures ∙ c.if-has.false) c.cell_at-c.ensures c.opens.ensures)))

pub shape_of-out : goal.shape_of-out
shape_of-out c = c.loop-todo.invariant.0

pub returns : goal.returns
returns c = λ g. let l = c.loop-todo in end g _ _ l.at l.n l.todo l.out (l.invariant.1 g) (omega (arith, c.loop-todo-test.false))
