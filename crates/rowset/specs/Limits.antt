-- The limit of rows.
use Rattle.std.specs.Prelude.{ℕ}

-- how many rows all rules have at most: as many as they weigh, and sound are "rules weighing at most 256 in all"
abbrev pub row_limit : ℕ
row_limit = 256
