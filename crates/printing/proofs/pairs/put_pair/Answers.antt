use native.Mathlib.Omega.{arith}
use lib.Dec.{ltb}
use Rattle.printing.proofs.PairLaws.{pair_none, pair_size, pair_put}
use Rattle.printing.proofs.pairs.put_pair.Goals as goal

pub returns-then-place-eq-UNBOUND : goal.returns-then-place-eq-UNBOUND
returns-then-place-eq-UNBOUND c = pair_none (ltb c.args.from c.args.at) c.args.variable c.args.place c.args.at c.args.out.now c.if-place-eq-UNBOUND.true

pub put_space-a-requires : goal.put_space-a-requires
put_space-a-requires c = omega (arith, c.requires, pair_size (ltb c.args.from c.args.at) c.args.variable c.args.place c.args.at c.args.out.now c.requires c.if-place-eq-UNBOUND.false)

pub put_number-b-requires : goal.put_number-b-requires
put_number-b-requires c = omega (arith, c.requires, pair_size (ltb c.args.from c.args.at) c.args.variable c.args.place c.args.at c.args.out.now c.requires c.if-place-eq-UNBOUND.false, c.put_space-a.ensures.behind, c.put_space-a.auto.out)

pub put-d-requires : goal.put-d-requires
put-d-requires c = omega (arith, c.requires, pair_size (ltb c.args.from c.args.at) c.args.variable c.args.place c.args.at c.args.out.now c.requires c.if-place-eq-UNBOUND.false, c.put_space-a.ensures.behind, c.put_space-a.auto.out, c.put_number-b.ensures.behind, c.put_number-b.auto.out)

pub put_number-requires : goal.put_number-requires
put_number-requires c = omega (arith, c.requires, pair_size (ltb c.args.from c.args.at) c.args.variable c.args.place c.args.at c.args.out.now c.requires c.if-place-eq-UNBOUND.false, c.put_space-a.ensures.behind, c.put_space-a.auto.out, c.put_number-b.ensures.behind, c.put_number-b.auto.out, c.put-d.ensures.behind, c.put-d.auto.out)

pub returns : goal.returns
returns c = pair_put (ltb c.args.from c.args.at) c.args.variable c.args.place c.args.at c.args.out.now c.requires c.if-place-eq-UNBOUND.false c.put_space-a.ensures c.put_number-b.ensures c.put-d.ensures c.put_number.ensures
