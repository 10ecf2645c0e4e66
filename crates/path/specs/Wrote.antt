-- What is written of a tree where there is room for it.
use Rattle.std.specs.Prelude.{◌≡◌, List, ◌++◌, ℕ, suc, ◌≤◌, min, length, drop}
use Rattle.tree.specs.Tree.{Tree}
use Rattle.tree.specs.Words.{words, layout}

-- how long the tree is, or that there is no room; and its words where there is
pub record Wrote (T : Tree) (base r : ℕ) (o o' : List ℕ) : Type 0 where
  pub much : r ≡ min (words T) (suc (length o))
  pub wrote : words T ≤ length o → o' ≡ layout T base ++ drop (words T) o
