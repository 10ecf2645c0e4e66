use native.Mathlib.Omega.{arith}
use Rattle.printing.proofs.PrintLaws.{line_length, line_put}
use Rattle.printing.proofs.print.put_line.Goals as goal

pub put-a-requires : goal.put-a-requires
put-a-requires c = omega (arith, c.requires, line_length c.args.key.now c.args.n)

pub put_number-b-requires : goal.put_number-b-requires
put_number-b-requires c = omega (arith, c.requires, line_length c.args.key.now c.args.n, c.put-a.ensures.behind, c.put-a.auto.out)

pub put-requires : goal.put-requires
put-requires c = omega (arith, c.requires, line_length c.args.key.now c.args.n, c.put-a.ensures.behind, c.put-a.auto.out, c.put_number-b.ensures.behind, c.put_number-b.auto.out)

pub returns : goal.returns
returns c = line_put c.args.key.now c.args.n c.args.at c.args.out.now c.requires c.put-a.ensures c.put_number-b.ensures c.put.ensures
