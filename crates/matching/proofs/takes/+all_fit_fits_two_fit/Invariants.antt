use Prim.Native.Nat.{◌+◌, ◌*◌}
use lib.ListN.{length}
use Rattle.matching.proofs.takes.+all_fit_fits_two_fit.Given as goal

abbrev pub decreases-all_fit : goal.decreases-all_fit
decreases-all_fit l = length l.p.now * 2 + 1

abbrev pub decreases-fits : goal.decreases-fits
decreases-fits l = length l.p.now * 2

abbrev pub decreases-two_fit : goal.decreases-two_fit
decreases-two_fit l = length l.p.now * 2 + 1
