-- A set of numbers, in one number: i is a member of s where bit i of s is 1.
use Rattle.std.specs.Prelude.{◌≡◌, List, [], ◌∷◌, ℕ, zero, suc, ◌+◌, ◌-◌, ◌/◌, ◌%◌, ◌^◌, ◌<◌, ◌≤◌, eqb}
use Rattle.std.specs.Int.Bits.{bit_and, bit_or}
use Rattle.signature.specs.Limits.{heads_limit}
use Rattle.signature.specs.Lists.{keep, count_up}

-- the members of a set in one word are below this
abbrev pub set_limit : ℕ
set_limit = 64

-- and those of a set of heads, in two words, below this
abbrev pub heads_width : ℕ
heads_width = set_limit + set_limit

-- bit i of s: 0 or 1
unfoldable pub bit : ℕ → ℕ → ℕ
bit s zero = s % 2
bit s (suc i) = bit (s / 2) i

-- the set of all numbers below that
abbrev pub all_set : ℕ
all_set = 2 ^ heads_width - 1

-- the members of either; of both
abbrev pub union : ℕ → ℕ → ℕ
union a b = bit_or a b

abbrev pub intersection : ℕ → ℕ → ℕ
intersection a b = bit_and a b

-- the members, rising
unfoldable pub members : ℕ → List ℕ
members s = keep (λ i. eqb (bit s i) 1) (count_up 0 heads_width)

-- r is the lowest member of s, and below n
pub record Lowest (n s r : ℕ) : Type 0 where
  pub small : r < n
  pub member : bit s r ≡ 1
  pub none_below : (j : ℕ) → j < r → bit s j ≡ 0

-- the set of the numbers of a list, counted from f: of the heads of a kind, f is its first; of variables, 0
unfoldable pub set_of : ℕ → List ℕ → ℕ
set_of f [] = 0
set_of f (c ∷ cs) = bit_or (2 ^ (c - f)) (set_of f cs)

-- each is one of the heads that a kind with the first head f may have
abbrev pub Within : ℕ → List ℕ → Type 0
Within f [] = Unit {0}
Within f (c ∷ cs) = (f ≤ c) × (c < f + heads_limit) × Within f cs
