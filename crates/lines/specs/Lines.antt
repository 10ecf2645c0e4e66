-- 01, the text program: the lines as they are read one behind the other, each with the bytes that it takes. `format/Laws` ties them to the format.
use Rattle.std.specs.Prelude.{List, cond, ℕ, ◌+◌, ltb, length, take, drop}
use Rattle.std.proofs.Math.Option.{Option, none, some}
use Rattle.signature.specs.Lists.{◌>>=◌, require, is_some}
use Rattle.table.specs.Rule.{Rule}
use Rattle.text.specs.Format.{fields, ended, after_key, list_after, number_after, rest_lines, key_rule, key_plan, key_pat}
use Rattle.numbers.specs.Bytes.{bytes_before}

-- the first line without its newline: "every line ends in a newline"
unfoldable pub first_line : List ℕ → Option (List ℕ)
first_line bs = do
  _ ← require (ltb (bytes_before 10 bs) (length bs))
  some (take (bytes_before 10 bs) bs)

-- where a line ends that begins with the key; n where there is none
abbrev pub end_of : List ℕ → ℕ → Option (List ℕ) → ℕ
end_of key n none = n
end_of key n (some l) = cond (is_some (after_key key l)) (length l) n

-- the same of the first line, with the number of bytes
unfoldable pub line_end : List ℕ → List ℕ → ℕ
line_end key bs = end_of key (length bs) (first_line bs)

-- a line of one number
unfoldable pub number_line : List ℕ → List ℕ → Option (ℕ × ℕ)
number_line key bs = do
  l ← first_line bs
  n ← number_after key l
  some (n, length l + 1)

-- a line of a list
unfoldable pub list_line : List ℕ → List ℕ → Option (List ℕ × ℕ)
list_line key bs = do
  l ← first_line bs
  ns ← list_after key l
  some (ns, length l + 1)

-- "rule=, plan=, pat= per rule"
unfoldable pub rule_lines : List ℕ → Option (Rule × ℕ)
rule_lines bs = do
  n ← number_line key_rule bs
  p ← number_line key_plan (drop n.1 bs)
  ws ← list_line key_pat (drop p.1 (drop n.1 bs))
  some (record { number = n.0; plan = p.0; pattern = ws.0 }, n.1 + p.1 + ws.1)

-- the rules and the booking in the bytes behind a line
unfoldable pub rest_text : List ℕ → Option (List Rule × List ℕ)
rest_text bs = ended (fields 10 bs) >>= λ ls. rest_lines ls
