-- A set of heads in two words, as one number.
use Rattle.std.specs.Prelude.{ℕ, ◌+◌, ◌*◌, ◌/◌, ◌%◌, ◌^◌}
use Rattle.sets.specs.Set.{set_limit}
use Rattle.sets.specs.declared.heads.Heads.{Heads}

abbrev pub number_of : Heads → ℕ
number_of s = s.high * 2 ^ set_limit + s.low

-- the words of a number
abbrev pub low_word : ℕ → ℕ
low_word m = m % 2 ^ set_limit

abbrev pub high_word : ℕ → ℕ
high_word m = m / 2 ^ set_limit

abbrev pub two_words : ℕ → Heads
two_words m = record { low = low_word m; high = high_word m }
