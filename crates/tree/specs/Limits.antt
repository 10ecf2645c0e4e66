-- The limits of trees.
use Rattle.std.specs.Prelude.{ℕ}

-- "a rule outside 1 to 999"
abbrev pub last_number : ℕ
last_number = 999

-- 14: "The tree exceeds the lent slice or 32,768 words"
abbrev pub tree_limit : ℕ
tree_limit = 32768
