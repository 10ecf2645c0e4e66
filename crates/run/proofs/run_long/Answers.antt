use mathlib.Core.Path.{refl, sym, ap, ◌∙◌}
use Rattle.run.proofs.CallLaws.{refused_13, booked, walked}
use Rattle.run.proofs.WalkLaws.{few_words}
use Rattle.run.proofs.run_long.Goals as goal

pub returns-then-not-lawful : goal.returns-then-not-lawful
returns-then-not-lawful c = λ g. refused_13 g c.args.tree.now c.args.b.now (sym c.if-not-lawful.true ∙ c.lawful.ensures g)

pub walk_in-requires : goal.walk_in-requires
walk_in-requires c = let k = booked c.requires c.args.tree.now c.args.b.now (sym c.if-not-lawful.false ∙ c.lawful.ensures c.requires) in (k, few_words k)

pub returns : goal.returns
returns c = λ g. walked g c.args.tree.now c.args.b.now c.walk_in.result (sym c.if-not-lawful.false ∙ c.lawful.ensures g) c.walk_in.ensures
