use mathlib.Core.Path.{sym, ◌∙◌}
use native.Mathlib.Omega.{arith}
use lib.ListN.{length-set}
use Rattle.leaf.proofs.PairLaws.{pair_wrote, pair_full, pair_none}
use Rattle.leaf.proofs.one_pair.Goals as goal

pub returns-then-out-at-lt2 : goal.returns-then-out-at-lt2
returns-then-out-at-lt2 c = pair_full c.args.a.now c.args.rows.now c.args.vis.now c.args.r c.args.x c.args.p c.cell_of-c.result c.cell_of-c.ensures c.args.at c.args.out.now (sym c.has.ensures ∙ c.if-has.true) (omega (arith, c.if-out-at-lt2.true))

pub bounds-out-at-then-has : goal.bounds-out-at-then-has
bounds-out-at-then-has c = simp length-set (omega arith)

pub returns-then-has : goal.returns-then-has
returns-then-has c = pair_wrote c.args.a.now c.args.rows.now c.args.vis.now c.args.r c.args.x c.args.p c.cell_of-c.result c.cell_of-c.ensures c.args.at c.args.out.now (sym c.has.ensures ∙ c.if-has.true) (omega (arith, c.if-out-at-lt2.false))

pub returns : goal.returns
returns c = pair_none c.args.a.now c.args.rows.now c.args.vis.now c.args.r c.args.x c.args.p c.cell_of-c.result c.cell_of-c.ensures c.args.at c.args.out.now (sym c.has.ensures ∙ c.if-has.false) c.requires.2
