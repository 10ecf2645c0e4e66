use native.Mathlib.Omega.{arith}
use Rattle.text.specs.Print.{key_refused}
use Rattle.printing.proofs.PrintLaws.{line_most, refused_is}
use Rattle.printing.proofs.print.refused.Goals as goal

pub put_line-requires : goal.put_line-requires
put_line-requires c = omega (arith, c.requires, line_most key_refused c.args.n)

pub returns : goal.returns
returns c = refused_is c.args.n c.put_line.ensures
