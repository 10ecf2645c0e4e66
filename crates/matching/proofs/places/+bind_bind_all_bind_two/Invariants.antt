use Prim.Native.Nat.{◌+◌, ◌*◌}
use lib.ListN.{length}
use Rattle.matching.proofs.places.+bind_bind_all_bind_two.Given as goal

abbrev pub decreases-bind : goal.decreases-bind
decreases-bind l = length l.p.now * 2

abbrev pub decreases-bind_all : goal.decreases-bind_all
decreases-bind_all l = length l.p.now * 2 + 1

abbrev pub decreases-bind_two : goal.decreases-bind_two
decreases-bind_two l = length l.p.now * 2 + 1
