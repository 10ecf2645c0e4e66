-- What is printed stands first in a lent space.
use Rattle.std.specs.Prelude.{◌≡◌, List, ◌++◌, ℕ, ◌+◌, ◌*◌, length, drop}
use Rattle.pattern.specs.Limits.{variable_count}
use Rattle.text.specs.Limits.{digit_limit}
use Rattle.text.specs.Print.{line, decimal, print_answer}

-- no more bytes are printed: rule= and plan= with a number and a newline, bind= and its newline, and for each variable two numbers, a colon and a space
abbrev pub print_limit : ℕ
print_limit = 2 * (5 + digit_limit + 1) + (5 + 1) + variable_count * (digit_limit + 1 + digit_limit + 1)

-- a line of a number
unfoldable pub number_line : List ℕ → ℕ → List ℕ
number_line key n = line key (decimal n)

-- the answer's bytes, by its parts
abbrev pub answer_bytes : ℕ → ℕ → List ℕ → List ℕ
answer_bytes rule plan places = print_answer (record { rule = rule; plan = plan; places = places })

-- the bytes stand first, and the rest is untouched
pub record Printed (bytes : List ℕ) (count : ℕ) (entry exit : List ℕ) : Type 0 where
  pub counted : count ≡ length bytes
  pub written : exit ≡ bytes ++ drop (length bytes) entry
