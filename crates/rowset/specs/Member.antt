-- A set of the rows of a table, 64 to a word.
use Rattle.std.specs.Prelude.{◌≡◌, List, Bool, true, false, ◌&&◌, ℕ, ◌+◌, ◌-◌, ◌/◌, ◌%◌, ◌≤◌, ◌<◌, min, eqb, leb, ltb, get_or}
use Rattle.sets.specs.Set.{bit, set_limit}
use Rattle.rowset.specs.Limits.{row_limit}

-- the words of a set of them
abbrev pub set_words : ℕ
set_words = 4

unfoldable pub member : List ℕ → ℕ → Bool
member s r = eqb (bit (get_or s (r / set_limit) 0) (r % set_limit)) 1

-- the rows of a word of a set, counted from `base` on
abbrev pub in_word : ℕ → ℕ → ℕ → Bool
in_word base word q = leb base q && ltb q (base + set_limit) && eqb (bit word (q - base)) 1

-- the first of n that is a member, or n
pub record FirstIn (s : List ℕ) (n r : ℕ) : Type 0 where
  pub most : r ≤ n
  pub before : (q : ℕ) → q < r → member s q ≡ false
  pub there : r < n → member s r ≡ true

-- the first of n that is a member and not below f, or n
pub record NextIn (s : List ℕ) (f n r : ℕ) : Type 0 where
  pub most : r ≤ n
  pub least : min f n ≤ r
  pub between : (q : ℕ) → f ≤ q → q < r → member s q ≡ false
  pub there : r < n → member s r ≡ true

-- whether no other row than i is a member
pub record OnlyIn (s : List ℕ) (i : ℕ) (b : Bool) : Type 0 where
  pub alone : b ≡ true → (q : ℕ) → q < row_limit → member s q ≡ true → q ≡ i
  pub other : b ≡ false → (q : ℕ) × (q < row_limit) × (member s q ≡ true) × ¬ (q ≡ i)
