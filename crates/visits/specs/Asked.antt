-- What is asked of the rows whose cursors are read or moved.
use Rattle.std.specs.Prelude.{◌≡◌, List, true, ℕ, ◌+◌, ◌*◌, ◌≤◌, ◌<◌, length, get_or}
use Rattle.pattern.specs.Limits.{pattern_limit}
use Rattle.rowset.specs.Limits.{row_limit}
use Rattle.rowset.specs.Member.{member, set_words}
use Rattle.path.specs.State.{row_stride, own_of}
use Rattle.signature.specs.Limits.{word_limit}

-- row r stands in the table of rows, and its cursor is at one of its cells or behind the last
abbrev pub RowThere : List ℕ → List ℕ → ℕ → Type 0
RowThere rows cur r = (r < length cur) × (row_stride * r + row_stride ≤ length rows) × (get_or cur r 0 ≤ pattern_limit)

-- each of n rows that is in the set, and room for a set of them
abbrev pub RowsThere : List ℕ → ℕ → List ℕ → List ℕ → List ℕ → Type 0
RowsThere rows n s cur re = (n ≤ row_limit) × (n ≤ length cur) × (row_stride * n ≤ length rows) × ((r : ℕ) → r < n → member s r ≡ true → get_or cur r 0 ≤ pattern_limit) × (length re ≡ set_words)

-- the same where each row of the set has at most ncols columns of its own
abbrev pub RowsWithin : List ℕ → ℕ → List ℕ → List ℕ → ℕ → Type 0
RowsWithin rows n s cur ncols = (n ≤ row_limit) × (n ≤ length cur) × (row_stride * n ≤ length rows) × ((r : ℕ) → r < n → member s r ≡ true → (get_or cur r 0 ≤ pattern_limit) × (own_of rows r (get_or cur r 0) ≤ ncols))

-- row r can be raised at visit v
abbrev pub RowRises : List ℕ → List ℕ → ℕ → ℕ → Type 0
RowRises cur vis v r = (r < length cur) × (pattern_limit * r + pattern_limit ≤ length vis) × (v < word_limit) × (get_or cur r 0 < pattern_limit)

abbrev pub RowsRise : List ℕ → List ℕ → ℕ → List ℕ → ℕ → Type 0
RowsRise cur vis n re v = (n ≤ row_limit) × (n ≤ length cur) × (pattern_limit * n ≤ length vis) × (v < word_limit) × ((r : ℕ) → r < n → get_or cur r 0 ≤ pattern_limit) × ((r : ℕ) → r < n → member re r ≡ true → get_or cur r 0 < pattern_limit)
