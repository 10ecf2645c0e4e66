use mathlib.Core.Path.{refl, sym, ◌∙◌}
use Rattle.std.proofs.lemmas.Result.{err_from_is_err_and}
use Rattle.signature.proofs.Numbers.{not_0}
use Rattle.deciding.proofs.Calling.{turned_down, force, refused_13, judging, answered}
use Rattle.deciding.proofs.decide.decide.Goals as goal

pub returns-in_err-open : goal.returns-in_err-open
returns-in_err-open c = let p = err_from_is_err_and c.from_residual.result c.from_residual.ensures.1 in rw (p.1, p.2) (turned_down c.args.ss.now c.args.table.now c.args.b.now _ _ c.in_err-open.ensures (not_0 _))

pub lawful-requires : goal.lawful-requires
lawful-requires c = (force c.args.ss.now c.args.table.now c.args.b.now _ _ c.in_ok-open.ensures refl).known

pub returns-then-not-lawful : goal.returns-then-not-lawful
returns-then-not-lawful c = refused_13 c.args.ss.now c.args.table.now c.args.b.now _ _ c.in_ok-open.ensures refl (sym c.if-not-lawful.true ∙ c.lawful.ensures (force c.args.ss.now c.args.table.now c.args.b.now _ _ c.in_ok-open.ensures refl).known)

pub by_rules-requires : goal.by_rules-requires
by_rules-requires c = judging c.args.ss.now c.args.table.now c.args.b.now _ _ c.in_ok-open.ensures refl (sym c.if-not-lawful.false ∙ c.lawful.ensures (force c.args.ss.now c.args.table.now c.args.b.now _ _ c.in_ok-open.ensures refl).known)

pub returns : goal.returns
returns c = answered c.args.ss.now c.args.table.now c.args.b.now _ _ c.in_ok-open.ensures refl (sym c.if-not-lawful.false ∙ c.lawful.ensures (force c.args.ss.now c.args.table.now c.args.b.now _ _ c.in_ok-open.ensures refl).known) c.by_rules.result c.by_rules.ensures
