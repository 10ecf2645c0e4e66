use native.Mathlib.Omega.{arith}
use Rattle.rowset.proofs.set.first_in.Goals as goal

pub first_from-requires : goal.first_from-requires
first_from-requires c = (omega arith, omega arith)

pub returns : goal.returns
returns c = let f = c.first_from.ensures in record { most = f.most; before = λ q l. f.between q (omega arith) l; there = f.there }
