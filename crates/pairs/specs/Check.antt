-- The check number of a matrix.
use Rattle.std.specs.Prelude.{ℕ}

-- a prime, above every check number
abbrev pub check_limit : ℕ
check_limit = 4294967291
