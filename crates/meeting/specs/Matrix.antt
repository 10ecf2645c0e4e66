-- A matrix of bits, rows by rows: a set of rows for each row.
use Rattle.std.specs.Prelude.{List, Bool, ℕ, ◌+◌, ◌*◌, ◌/◌, ◌%◌, eqb, get_or}
use Rattle.sets.specs.Set.{bit, set_limit}
use Rattle.rowset.specs.Member.{set_words}

-- bit (i, j)
unfoldable pub meets : List ℕ → ℕ → ℕ → Bool
meets m i j = eqb (bit (get_or m (set_words * i + j / set_limit) 0) (j % set_limit)) 1
