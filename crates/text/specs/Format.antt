-- 01, the text program: its line format (17).
use Rattle.std.specs.Prelude.{List, ◌∷◌, [], cond, Bool, ◌&&◌, false, not, ℕ, ◌*◌, ◌+◌, ◌-◌, eqb, leb, length}
use Rattle.std.proofs.Math.Option.{Option, none, some}
use Rattle.signature.specs.Lists.{◌>>=◌, require, all}
use Rattle.table.specs.Rule.{Rule}
use Rattle.text.specs.Limits.{digit_limit, last_word, list_limit, text_limit}

-- sig= in bytes: "fixed byte strings such as sig= and book="
abbrev pub key_sig : List ℕ
key_sig = 115 ∷ 105 ∷ 103 ∷ 61 ∷ []

-- rule=
abbrev pub key_rule : List ℕ
key_rule = 114 ∷ 117 ∷ 108 ∷ 101 ∷ 61 ∷ []

-- plan=
abbrev pub key_plan : List ℕ
key_plan = 112 ∷ 108 ∷ 97 ∷ 110 ∷ 61 ∷ []

-- pat=
abbrev pub key_pat : List ℕ
key_pat = 112 ∷ 97 ∷ 116 ∷ 61 ∷ []

-- book=
abbrev pub key_book : List ℕ
key_book = 98 ∷ 111 ∷ 111 ∷ 107 ∷ 61 ∷ []

-- a byte in front of the first part
abbrev pub push : ℕ → List (List ℕ) → List (List ℕ)
push b [] = (b ∷ []) ∷ []
push b (f ∷ fs) = (b ∷ f) ∷ fs

-- the parts between the separators c
abbrev pub fields : ℕ → List ℕ → List (List ℕ)
fields c [] = [] ∷ []
fields c (b ∷ bs) = cond (eqb b c) ([] ∷ fields c bs) (push b (fields c bs))

-- "every line ends in a newline": the parts between newlines, of which the last is empty
abbrev pub ended : List (List ℕ) → Option (List (List ℕ))
ended [] = none
ended (f ∷ []) = elim f [ [] ↦ some [] | b ∷ bs ↦ none ]
ended (f ∷ (g ∷ gs)) = ended (g ∷ gs) >>= λ ls. some (f ∷ ls)

-- a decimal digit
abbrev pub digit : ℕ → Bool
digit b = leb 48 b && leb b 57

-- what digits are worth behind a number n
abbrev pub worth : ℕ → List ℕ → ℕ
worth n [] = n
worth n (b ∷ bs) = worth (10 * n + (b - 48)) bs

-- "no leading zero (0 itself is 0)"
abbrev pub leading_zero : List ℕ → Bool
leading_zero [] = false
leading_zero (b ∷ []) = false
leading_zero (b ∷ (c ∷ bs)) = eqb b 48

-- "Numbers have 1 to 5 digits, no leading zero (0 itself is 0), at most 65,535"
abbrev pub number : List ℕ → Option ℕ
number bs = do
  _ ← require (leb 1 (length bs) && leb (length bs) digit_limit && all digit bs && not (leading_zero bs) && leb (worth 0 bs) last_word)
  some (worth 0 bs)

-- one number for each part
abbrev pub numbers : List (List ℕ) → Option (List ℕ)
numbers [] = some []
numbers (f ∷ fs) = do
  n ← number f
  ns ← numbers fs
  some (n ∷ ns)

-- numbers, "one space between", at most so many
abbrev pub list_within : ℕ → List ℕ → Option (List ℕ)
list_within limit bs = do
  ns ← numbers (fields 32 bs)
  _ ← require (leb (length ns) limit)
  some ns

-- "1 to 4,096 a list"
abbrev pub list : List ℕ → Option (List ℕ)
list bs = list_within list_limit bs

-- "The key at the line's start must be exactly the next one due": what stands behind it
abbrev pub after_key : List ℕ → List ℕ → Option (List ℕ)
after_key [] bs = some bs
after_key (k ∷ ks) [] = none
after_key (k ∷ ks) (b ∷ bs) = require (eqb k b) >>= λ u. after_key ks bs

-- a line of a list
abbrev pub list_after : List ℕ → List ℕ → Option (List ℕ)
list_after key bs = after_key key bs >>= λ rest. list rest

-- "and one for rule= and plan="
abbrev pub number_after : List ℕ → List ℕ → Option ℕ
number_after key bs = after_key key bs >>= λ rest. number rest

-- signature, rules in order, booking
pub record Text : Type 0 where
  pub sig_words : List ℕ
  pub rules : List Rule
  pub book_words : List ℕ

-- "after sig= or pat= that is rule= or book=, and book= is last"
abbrev pub rest_lines : List (List ℕ) → Option (List Rule × List ℕ)
rest_lines [] = none
rest_lines (l ∷ []) = do
  bs ← list_after key_book l
  some ([], bs)
rest_lines (l ∷ (m ∷ [])) = none
rest_lines (l ∷ (m ∷ (k ∷ ls))) = do
  n ← number_after key_rule l
  p ← number_after key_plan m
  ws ← list_after key_pat k
  r ← rest_lines ls
  some (record { number = n; plan = p; pattern = ws } ∷ r.0, r.1)

-- "A program reads lines sig=, then rule=, plan=, pat= per rule, then book="
abbrev pub text_lines : List (List ℕ) → Option Text
text_lines [] = none
text_lines (l ∷ ls) = do
  ss ← list_after key_sig l
  r ← rest_lines ls
  some (record { sig_words = ss; rules = r.0; book_words = r.1 })

-- "at most 32,768 bytes"; else refusal 17
abbrev pub read_text : List ℕ → Option Text
read_text bytes = do
  _ ← require (leb (length bytes) text_limit)
  ls ← ended (fields 10 bytes)
  text_lines ls
