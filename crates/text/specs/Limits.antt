-- The limits of the text.
use Rattle.std.specs.Prelude.{ℕ}

-- "Numbers have 1 to 5 digits"
abbrev pub digit_limit : ℕ
digit_limit = 5

-- "at most 65,535"
abbrev pub last_word : ℕ
last_word = 65535

-- "1 to 4,096 a list"
abbrev pub list_limit : ℕ
list_limit = 4096

-- "at most 32,768 bytes"
abbrev pub text_limit : ℕ
text_limit = 32768
