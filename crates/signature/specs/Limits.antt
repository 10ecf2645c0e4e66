-- The limits of signatures and bookings.
use Rattle.std.specs.Prelude.{ℕ, suc}

-- "the constructor count n (1 to 256)"
abbrev pub constructor_limit : ℕ
constructor_limit = 256

-- "its number of arguments (0 to 4)"
abbrev pub argument_limit : ℕ
argument_limit = 4

-- "at most 32 kinds"
abbrev pub kind_limit : ℕ
kind_limit = 32

-- "at most 64 constructors a kind"
abbrev pub row_limit : ℕ
row_limit = 64

-- 02, job 1: "Its values are the single words 1,000 to 1,100. .. A level is the word less 1,000"
abbrev pub level_base : ℕ
level_base = 1000

abbrev pub last_level : ℕ
last_level = 100

abbrev pub level_count : ℕ
level_count = suc last_level

-- how many heads a kind has at most: a number kind has its 101 levels, which are more than 64 constructors
abbrev pub heads_limit : ℕ
heads_limit = level_count

-- 02, job 1: "A constructor row with argument count 5 and no argument kinds declares a number kind"
abbrev pub number_count : ℕ
number_count = suc argument_limit

-- "Every kind has a value of at most 6 words"
abbrev pub small_size : ℕ
small_size = 6

-- what stands for the size of a kind that has no such value
abbrev pub over_small : ℕ
over_small = suc small_size

-- "A lawful booking is one value of kind 0, 1 to 4,096 words"
abbrev pub booking_limit : ℕ
booking_limit = 4096

-- "nested at most 256 deep"
abbrev pub depth_limit : ℕ
depth_limit = 256

-- words have 16 bits
abbrev pub word_limit : ℕ
word_limit = 65536
