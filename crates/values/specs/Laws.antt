-- The laws of values under rows. The function `laws` promises them.
use Rattle.std.specs.Prelude.{◌≡◌, List, true, ℕ, ◌≤◌}
use Rattle.signature.specs.Decoded.{Known}
use Rattle.signature.specs.Lawful.{OfKind}
use Rattle.signature.specs.Value.{Value, Values, con, size}
use Rattle.row.specs.Row.{Row}
use Rattle.row.specs.RowFits.{row_fits, place_count}
use Rattle.values.specs.Shortest.{head_size}

pub record Laws : Type 0 where
  -- a value has at least as many words as a row that takes it has cells
  pub cells_words : (r : Row) (v : Value) → row_fits r v ≡ true → place_count r ≤ size v
  -- and at least as many as the least under its head
  pub head_least : (t : List ℕ) (g : Known t) (k c : ℕ) (vs : Values) → OfKind g.sig k (con c vs) → head_size g.sig g.decoded.n c ≤ size (con c vs)
