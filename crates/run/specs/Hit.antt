-- 01, Tree: the answer of a hit leaf, by the words of the tree from the leaf on.
use Rattle.std.specs.Prelude.{List, ◌&&◌, ℕ, leb, drop}
use Rattle.std.proofs.Math.Option.{Option, some}
use Rattle.std.proofs.Math.ListN.{get_elem?}
use Rattle.signature.specs.Lists.{◌>>=◌, require}
use Rattle.pattern.specs.Places.{unbound}
use Rattle.tree.specs.Answer.{Answer}
use Rattle.tree.specs.Limits.{last_number}
use Rattle.tree.specs.Run.{bound}

-- the answer of a hit leaf with these pairs
abbrev pub hit_binds : ℕ → ℕ → ℕ → List ℕ → List ℕ → Option Answer
hit_binds r p n ws visits = do
  places ← bound n 0 ws visits unbound
  some (record { rule = r; plan = p; places = places })

-- a hit leaf with no booking left, after these visits
abbrev pub hit_at : List ℕ → List ℕ → Option Answer
hit_at t visits = do
  r ← get_elem? t 1
  p ← get_elem? t 2
  n ← get_elem? t 3
  _ ← require (leb 1 r && leb r last_number)
  hit_binds r p n (drop 4 t) visits
