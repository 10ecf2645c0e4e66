-- The bound on what a place of a row adds to a shown booking.
use Rattle.std.specs.Prelude.{ℕ, suc, ◌*◌}
use Rattle.signature.specs.Limits.{argument_limit, small_size}

-- a constructor, and a value of at most 6 words for each of at most 4 arguments: 25
abbrev pub place_words : ℕ
place_words = suc (argument_limit * small_size)
