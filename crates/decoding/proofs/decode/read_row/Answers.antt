use mathlib.Core.Path.{refl, ◌∙◌}
use native.Mathlib.Omega.{arith}
use lib.ListN.{length-set}
use Rattle.decoding.proofs.Rows.{row_short, row_cut, row_taken, row_highest}
use Rattle.decoding.proofs.decode.read_row.Goals as goal

pub returns-then-left-lt2 : goal.returns-then-left-lt2
returns-then-left-lt2 c = let a = c.args in record { long = refl; none = row_short a.w.now a.place (omega arith); some = tt }

pub returns-then-left-arity : goal.returns-then-left-arity
returns-then-left-arity c = let a = c.args in record { long = refl; none = row_cut a.w.now a.place (omega arith) (omega arith) (omega arith); some = tt }

pub returns : goal.returns
returns c = let a = c.args in let p = c.requires in let k = c.copy_words-highest.ensures in record { long = k.0.long ∙ simp length-set; none = tt; some = (row_taken a.w.now a.place a.t.now a.c c.wide-arity.result _ _ _ p.1 p.2 c.wide-arity.ensures c.argument_count-few.ensures (omega arith) (omega arith) c.flag_by.ensures k.0, row_highest a.w.now a.place a.t.now a.c c.wide-arity.result _ _ _ _ _ p.1 p.2 c.wide-arity.ensures (omega arith) k.0 k.1) }
