use lib.ListN.{length}
use Prim.Native.Nat.{◌+◌, ◌*◌}
use Rattle.builder.proofs.build.+added_args_head_rows_multiplied_rows.Given as goal

abbrev pub decreases-rows : goal.decreases-rows
decreases-rows l = 3 * length l.p.now + 1

abbrev pub decreases-multiplied : goal.decreases-multiplied
decreases-multiplied l = 3 * length l.p.now

abbrev pub decreases-head_rows : goal.decreases-head_rows
decreases-head_rows l = 3 * length l.p.now

abbrev pub decreases-args : goal.decreases-args
decreases-args l = 3 * length l.p.now + 2

abbrev pub decreases-added : goal.decreases-added
decreases-added l = 3 * length l.p.now
