-- The rows of a pattern on a side; a kind whose set of heads is known.
use Rattle.std.specs.Prelude.{◌≡◌, List, Bool, true, false, ℕ, ◌<◌, ◌+◌}
use Rattle.signature.specs.Lists.{is_empty}
use Rattle.signature.specs.Signature.{Signature, heads}
use Rattle.pattern.specs.Pattern.{Pattern}
use Rattle.cell.specs.Cell.{Kinds, kind_tag}
use Rattle.sets.specs.Set.{Within, set_of}
use Rattle.row.specs.Row.{Row, rows_plus, rows_minus}

abbrev pub rows_of : Signature → ℕ → Bool → Pattern → List Row
rows_of sig k true p = rows_plus sig k p
rows_of sig k false p = rows_minus sig k p

-- a kind with its tag and the set of all its heads
pub record Open (K : Kinds) (sig : Signature) (k tag full : ℕ) : Type 0 where
  pub kind : k < 256
  pub some : is_empty (heads sig k) ≡ false
  pub within : Within (K.first k) (heads sig k)
  pub tag_is : tag ≡ kind_tag + k
  pub full_is : full ≡ set_of (K.first k) (heads sig k)
