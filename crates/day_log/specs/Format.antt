-- 02, job 5: "a program reads it as one line log=", in the format of 01 (17).
use Rattle.std.specs.Prelude.{◌≡◌, List, [], ◌∷◌, ◌++◌, ℕ, ◌≤◌, leb, length}
use Rattle.std.proofs.Math.Option.{Option, none, some}
use Rattle.signature.specs.Lists.{All, ◌>>=◌, require}
use Rattle.text.specs.Format.{fields, ended, numbers, after_key}
use Rattle.text.specs.Lawful.{list_bytes, unlines}
use Rattle.text.specs.Limits.{last_word, text_limit}

-- log= in bytes
abbrev pub key_log : List ℕ
key_log = 108 ∷ 111 ∷ 103 ∷ 61 ∷ []

-- "on which only 32,768 bytes bound the list, which may be empty"; else numbers as in every list, one space between
abbrev pub log_list : List ℕ → Option (List ℕ)
log_list [] = some []
log_list (b ∷ bs) = numbers (fields 32 (b ∷ bs))

-- "one line log="
abbrev pub log_lines : List (List ℕ) → Option (List ℕ)
log_lines [] = none
log_lines (l ∷ []) = after_key key_log l >>= λ rest. log_list rest
log_lines (l ∷ (m ∷ ls)) = none

-- the log in a text; else refusal 17
unfoldable pub read_log : List ℕ → Option (List ℕ)
read_log bytes = do
  _ ← require (leb (length bytes) text_limit)
  ls ← ended (fields 10 bytes)
  log_lines ls

-- the same said without reading: these bytes are this log
pub record LogBytes (bytes log : List ℕ) : Type 0 where
  pub is_text : bytes ≡ unlines ((key_log ++ list_bytes log) ∷ [])
  pub at_most : length bytes ≤ text_limit
  pub words : All (λ n. n ≤ last_word) log
