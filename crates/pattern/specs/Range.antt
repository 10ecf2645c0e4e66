-- 02, job 1: ranges of levels. "280, low, high (0 to 100, both included). A level is the word less 1,000".
use Rattle.std.specs.Prelude.{Bool, ◌&&◌, ℕ, ◌+◌, leb}
use Rattle.signature.specs.Limits.{level_base, last_level}

-- the head d is a level from low to high, both included
abbrev pub within : ℕ → ℕ → ℕ → Bool
within low high d = leb (level_base + low) d && leb d (level_base + high)

-- "18, a range whose low exceeds its high or whose high exceeds 100": this one is not
abbrev pub right_range : ℕ → ℕ → Bool
right_range low high = leb low high && leb high last_level
