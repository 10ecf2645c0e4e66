-- Columns in which no row alive has a cell.
use Rattle.std.specs.Prelude.{◌≡◌, List, true, ℕ, ◌+◌, ◌≤◌, ◌<◌, get_or}
use Rattle.rowset.specs.Member.{member, FirstIn}
use Rattle.path.specs.State.{own_of}

-- the first columns that are virtual in every row alive; none where no row is alive
pub record Blank (rows : List ℕ) (n : ℕ) (s cur : List ℕ) (ncols b : ℕ) : Type 0 where
  pub most : b ≤ ncols
  pub virt : (r : ℕ) → r < n → member s r ≡ true → own_of rows r (get_or cur r 0) + b ≤ ncols
  pub some : 0 < b → (r : ℕ) × (r < n) × FirstIn s n r
