use mathlib.Core.Path.{refl}
use native.Mathlib.Omega.{arith}
use Rattle.rowset.proofs.MemberLaws.{below_none}
use Rattle.rowset.proofs.set.first_rows.Goals as goal

pub loop-r-init : goal.loop-r-init
loop-r-init c = (omega arith, refl, below_none)
