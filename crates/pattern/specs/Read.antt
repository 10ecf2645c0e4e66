-- 01, Patterns: words read as a pattern, by "match on a copied pattern word". Laws says that exactly the words of patterns are read.
use Rattle.std.specs.Prelude.{List, [], ◌∷◌, Bool, cond, ℕ, ◌-◌, zero, suc, ◌+◌, ltb, eqb, leb, length}
use Rattle.std.proofs.Math.Option.{Option, some, none}
use Rattle.signature.specs.Lists.{◌>>=◌, require, whole}
use Rattle.signature.specs.Signature.{Signature, arguments_at, is_number_kind}
use Rattle.pattern.specs.Limits.{pattern_limit, last_variable, range_word}
use Rattle.pattern.specs.Pattern.{Pattern, Patterns, pnil, pcons, head, and, or, wild, absurd_pat, neg, var, range}

-- what a word of a pattern is
pub data Form : Type 0 where
  is_head is_var : ℕ → Form
  is_and is_or is_wild is_absurd is_not is_range is_other : Form

-- "0 to 255", "256 .. 260", "261 to 276", 02, job 1: "280"; "Any other word .. is malformed"
abbrev pub form : ℕ → Form
form w =
    cond (ltb w 256) (is_head w)
    (cond (eqb w 256) is_and
    (cond (eqb w 257) is_or
    (cond (eqb w 258) is_wild
    (cond (eqb w 259) is_absurd
    (cond (eqb w 260) is_not
    (cond (leb w (261 + last_variable)) (is_var (w - 261))
    (cond (eqb w range_word) is_range is_other)))))))

-- one pattern for each kind, by a reader of one pattern
abbrev pub read_each : (ℕ → List ℕ → Option (Pattern × List ℕ)) → List ℕ → List ℕ → Option (Patterns × List ℕ)
read_each one [] ws = some (pnil, ws)
read_each one (k ∷ ks) ws = do
  r ← one k ws
  s ← read_each one ks r.1
  some (pcons r.0 s.0, s.1)

-- two patterns of a kind
abbrev pub read_two : (ℕ → List ℕ → Option (Pattern × List ℕ)) → (Pattern → Pattern → Pattern) → ℕ → List ℕ → Option (Pattern × List ℕ)
read_two one join k ws = do
  r ← one k ws
  s ← one k r.1
  some (join r.0 s.0, s.1)

-- 02, job 1: "A pattern there may be 280, low, high", "280 at another kind is 7": b says that the kind is a number kind
abbrev pub read_range : Bool → List ℕ → Option (Pattern × List ℕ)
read_range b [] = none
read_range b (low ∷ []) = none
read_range b (low ∷ (high ∷ ws)) = cond b (some (range low high, ws)) none

-- a pattern of kind k by its first word's form, with a reader of its parts
abbrev pub read_by_form : Signature → (ℕ → List ℕ → Option (Pattern × List ℕ)) → Form → ℕ → List ℕ → Option (Pattern × List ℕ)
read_by_form sig one (is_head c) k ws = do
  ks ← arguments_at sig k c
  r ← read_each one ks ws
  some (head c r.0, r.1)
read_by_form sig one is_and k ws = read_two one and k ws
read_by_form sig one is_or k ws = read_two one or k ws
read_by_form sig one is_wild k ws = some (wild, ws)
read_by_form sig one is_absurd k ws = some (absurd_pat, ws)
read_by_form sig one is_not k ws = do
  r ← one k ws
  some (neg r.0, r.1)
read_by_form sig one (is_var x) k ws = some (var x, ws)
read_by_form sig one is_range k ws = read_range (is_number_kind sig k) ws
read_by_form sig one is_other k ws = none

-- a pattern of kind k nested at most d deep at the start of the words, and the words behind it
abbrev pub read_one : Signature → ℕ → ℕ → List ℕ → Option (Pattern × List ℕ)
read_one sig zero k ws = none
read_one sig (suc d) k [] = none
read_one sig (suc d) k (w ∷ ws) = read_by_form sig (λ j us. read_one sig d j us) (form w) k ws

-- the pattern that the words are; else refusal 7
abbrev pub read_pattern : Signature → List ℕ → Option Pattern
read_pattern sig ws = do
  _ ← require (leb (length ws) pattern_limit)
  r ← read_one sig pattern_limit 0 ws
  whole r
