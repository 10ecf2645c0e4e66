use native.Mathlib.Omega.{arith}
use Rattle.meeting.proofs.Gathering.{standing, roomy, matrix}
use Rattle.meeting.proofs.rows.meet.Goals as goal

pub visit-requires : goal.visit-requires
visit-requires c = let f = c.first_rows-all in (standing c.requires.0 f.result f.ensures, (λ q l h. omega (arith, roomy c.requires.0 f.result f.ensures q l h, c.set_rows.auto.m)), c.requires.1)

pub returns : goal.returns
returns c = λ g. let f = c.first_rows-all in matrix g f.result f.ensures _ _ _ c.set_rows.ensures (c.visit.ensures (standing g f.result f.ensures))
