use mathlib.Core.Path.{subst}
use mathlib.Core.List.{List}
use Prim.Native.Nat.{ℕ}
use lib.ListN.{length-replicate}
use Rattle.writer.specs.Write.{TreeWritten}
use Rattle.compiling.proofs.rules.write_in.Goals as goal

pub returns : goal.returns
returns g c = record {
  tree_written = subst (λ n. TreeWritten c.args.t.now c.args.lists.now c.args.rows.now c.args.n n c.args.space.now c.write.result c.write.new.out) (length-replicate {A = ℕ} g.row.TREE 0) c.write.ensures.tree_written;
  cur_len_unchanged = c.write.ensures.cur_len_unchanged;
}
