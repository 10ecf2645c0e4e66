use native.Mathlib.Omega.{arith}
use Rattle.printing.proofs.PrintLaws.{answer_most, answer_put}
use Rattle.printing.proofs.print.answer.Goals as goal

pub put_line-a-requires : goal.put_line-a-requires
put_line-a-requires c = omega (arith, answer_most c.args.rule c.args.plan c.args.places.now c.requires.0, c.requires.1)

pub put_line-b-requires : goal.put_line-b-requires
put_line-b-requires c = omega (arith, answer_most c.args.rule c.args.plan c.args.places.now c.requires.0, c.requires.1, c.put_line-a.ensures.behind, c.put_line-a.auto.out)

pub put-d-requires : goal.put-d-requires
put-d-requires c = omega (arith, answer_most c.args.rule c.args.plan c.args.places.now c.requires.0, c.requires.1, c.put_line-a.ensures.behind, c.put_line-a.auto.out, c.put_line-b.ensures.behind, c.put_line-b.auto.out)

pub put_pairs-e-requires : goal.put_pairs-e-requires
put_pairs-e-requires c = (c.requires.0, omega (arith, answer_most c.args.rule c.args.plan c.args.places.now c.requires.0, c.requires.1, c.put_line-a.ensures.behind, c.put_line-a.auto.out, c.put_line-b.ensures.behind, c.put_line-b.auto.out, c.put-d.ensures.behind, c.put-d.auto.out))

pub put-requires : goal.put-requires
put-requires c = omega (arith, answer_most c.args.rule c.args.plan c.args.places.now c.requires.0, c.requires.1, c.put_line-a.ensures.behind, c.put_line-a.auto.out, c.put_line-b.ensures.behind, c.put_line-b.auto.out, c.put-d.ensures.behind, c.put-d.auto.out, c.put_pairs-e.ensures.behind, c.put_pairs-e.auto.out)

pub returns : goal.returns
returns c = answer_put c.args.rule c.args.plan c.args.places.now c.requires.0 c.args.out.now c.requires.1 c.put_line-a.ensures c.put_line-b.ensures c.put-d.ensures c.put_pairs-e.ensures c.put.ensures
