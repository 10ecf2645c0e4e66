-- Bytes put into a lent space.
use Rattle.std.specs.Prelude.{◌≡◌, List, ◌++◌, ℕ, ◌+◌, length, take, drop}
use Rattle.text.specs.Print.{decimal}

-- the bytes from an index on, all others as they were
abbrev pub put_at : ℕ → List ℕ → List ℕ → List ℕ
put_at at bytes o = (take at o ++ bytes) ++ drop (at + length bytes) o

-- the bytes are put, and next is the index behind them
pub record Put (bytes : List ℕ) (at next : ℕ) (entry exit : List ℕ) : Type 0 where
  pub behind : next ≡ at + length bytes
  pub put : exit ≡ put_at at bytes entry

-- a number in decimal, opened only by its laws
unfoldable pub in_decimal : ℕ → List ℕ
in_decimal n = decimal n
