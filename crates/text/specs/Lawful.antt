-- 01, the text program: the line format, said without reading.
use Rattle.std.specs.Prelude.{◌≡◌, List, map, [], ◌∷◌, ◌++◌, ℕ, ◌≤◌, length}
use Rattle.signature.specs.Lists.{All}
use Rattle.table.specs.Rule.{Rule}
use Rattle.text.specs.Format.{key_rule, key_plan, key_pat, Text, key_sig, key_book}
use Rattle.text.specs.Limits.{last_word, list_limit, text_limit}
use Rattle.text.specs.Print.{spaced, decimal}

-- numbers in decimal, "one space between"
abbrev pub list_bytes : List ℕ → List ℕ
list_bytes ns = spaced (map decimal ns)

-- "1 to 4,096 a list", "at most 65,535"
pub record ListOk (ns : List ℕ) : Type 0 where
  pub some_number : 1 ≤ length ns
  pub at_most : length ns ≤ list_limit
  pub words : All (λ n. n ≤ last_word) ns

-- "one for rule= and plan="; the pattern is a list
pub record RuleOk (r : Rule) : Type 0 where
  pub number_ok : r.number ≤ last_word
  pub plan_ok : r.plan ≤ last_word
  pub pattern_ok : ListOk r.pattern

-- "rule=, plan=, pat= per rule"
abbrev pub rules_lines : List Rule → List (List ℕ) → List (List ℕ)
rules_lines [] ls = ls
rules_lines (r ∷ rs) ls = (key_rule ++ decimal r.number) ∷ ((key_plan ++ decimal r.plan) ∷ ((key_pat ++ list_bytes r.pattern) ∷ rules_lines rs ls))

-- "sig=, then .., then book="
abbrev pub lines_of : Text → List (List ℕ)
lines_of t = (key_sig ++ list_bytes t.sig_words) ∷ rules_lines t.rules ((key_book ++ list_bytes t.book_words) ∷ [])

-- "every line ends in a newline"
abbrev pub unlines : List (List ℕ) → List ℕ
unlines [] = []
unlines (l ∷ ls) = l ++ (10 ∷ unlines ls)

-- these bytes are this text
pub record TextBytes (bytes : List ℕ) (t : Text) : Type 0 where
  pub is_text : bytes ≡ unlines (lines_of t)
  pub at_most : length bytes ≤ text_limit
  pub sig_ok : ListOk t.sig_words
  pub rules_ok : All RuleOk t.rules
  pub book_ok : ListOk t.book_words
