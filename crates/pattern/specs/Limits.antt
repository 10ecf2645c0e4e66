-- The limits of patterns.
use Rattle.std.specs.Prelude.{ℕ, suc}

-- "1 to 64 words in preorder"
abbrev pub pattern_limit : ℕ
pattern_limit = 64

-- "variable 0 to 15"
abbrev pub last_variable : ℕ
last_variable = 15

-- "16 places"
abbrev pub variable_count : ℕ
variable_count = suc last_variable

-- "(65,535: unbound)"
abbrev pub unbound_place : ℕ
unbound_place = 65535

-- 02, job 1: "A pattern there may be 280, low, high"
abbrev pub range_word : ℕ
range_word = 280

-- "Each part, at the side on which it stands, weighs at most 64"
abbrev pub part_weight_limit : ℕ
part_weight_limit = 64
