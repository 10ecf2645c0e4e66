use mathlib.Core.Path.{refl, ◌∙◌}
use native.Mathlib.Omega.{arith}
use Rattle.printing.proofs.PairLaws.{pairs_start, pair_room, pairs_next}
use Rattle.printing.proofs.pairs.put_pairs.Goals as goal

pub loop-x-init : goal.loop-x-init
loop-x-init c = (c.requires.0, c.requires.1, refl, pairs_start c.args.places.now c.args.out.now c.args.from)

pub put_pair-at-requires : goal.put_pair-at-requires
put_pair-at-requires c = let l = c.loop-x in omega (arith, pair_room l.invariant.3 l.invariant.1 c.loop-x-test.true, l.invariant.2)

pub loop-x-preserved : goal.loop-x-preserved
loop-x-preserved c = let l = c.loop-x in (l.invariant.0, l.invariant.1, c.put_pair-at.auto.out ∙ l.invariant.2, pairs_next l.invariant.3 l.invariant.1 c.loop-x-test.true c.put_pair-at.result c.put_pair-at.new.out c.put_pair-at.ensures)
