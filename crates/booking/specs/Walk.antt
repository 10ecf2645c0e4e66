-- The booking check as one walk over the words: what is still due, and what one word makes of it. The check inside the calls and the steps that a host takes share it.
use Rattle.std.specs.Prelude.{List, [], ◌∷◌, ◌++◌, map, Bool, true, false, cond, ◌&&◌, ℕ, zero, suc, ◌+◌, ◌-◌, ◌*◌, ◌/◌, ◌%◌, ◌≤◌, ◌<◌, leb, ltb, eqb, length, take, drop, get_or, None, Some}
use Rattle.std.specs.Prelude as prelude
use Rattle.std.proofs.Math.Option.{Option, some, none}
use Rattle.signature.specs.Limits.{depth_limit, word_limit}
use Rattle.signature.specs.Lists.{◌>>=◌, require, is_some, All}
use Rattle.signature.specs.Signature.{Signature, arguments_at}
use Rattle.signature.specs.Decoded.{stride, head_arity}

-- a value due: its kind, and how deep it may be nested
abbrev pub Due : Type 0
Due = ℕ × ℕ

-- the head w stands for the first value due, and its arguments are due instead
abbrev pub walk_at : Signature → ℕ → ℕ → ℕ → List Due → Option (List Due)
walk_at sig k zero w xs = none
walk_at sig k (suc d) w xs = arguments_at sig k w >>= λ ks. some (map (λ j. (j, d)) ks ++ xs)

abbrev pub walk_word : Signature → List Due → ℕ → Option (List Due)
walk_word sig [] w = none
walk_word sig (x ∷ xs) w = walk_at sig x.0 x.1 w xs

abbrev pub walk : Signature → List Due → List ℕ → Option (List Due)
walk sig xs [] = some xs
walk sig xs (w ∷ ws) = walk_word sig xs w >>= λ ys. walk sig ys ws

-- at first one value of kind 0 is due
abbrev pub first_due : List Due
first_due = (0, depth_limit) ∷ []

-- nothing is left
abbrev pub ended : Option (List Due) → Bool
ended none = false
ended (some []) = true
ended (some (x ∷ xs)) = false

-- An open value is a head of which arguments are still due. It is two words: where the kind of its next argument stands, and how many of its arguments are due with how deep each may be nested.
abbrev pub open_word : ℕ → ℕ → ℕ
open_word left deep = depth_limit * left + deep

abbrev pub left_in : ℕ → ℕ
left_in x = x / depth_limit

abbrev pub deep_in : ℕ → ℕ
deep_in x = x % depth_limit

-- one open value at each depth
abbrev pub open_limit : ℕ
open_limit = 2 * depth_limit

-- the values due by the open values, the innermost first; the kinds stand in rows
abbrev pub due_in : List ℕ → List ℕ → List Due
due_in rows [] = []
due_in rows (p ∷ []) = []
due_in rows (p ∷ (x ∷ os)) = map (λ k. (k, deep_in x)) (take (left_in x) (drop p rows)) ++ due_in rows os

-- the values due after i words
abbrev pub due_after : List ℕ → ℕ → List ℕ → List Due
due_after rows zero os = first_due
due_after rows (suc i) os = due_in rows os

-- what a step asks of a signature: the words in which the kinds of arguments stand, whether a word is a head of a kind, where the kinds of a head's arguments begin, and how many they are
pub record View : Type 0 where
  pub rows : List ℕ
  pub head : ℕ → ℕ → Bool
  pub place : ℕ → ℕ
  pub count : ℕ → ℕ

-- w is one of n numbers from the first on: heads of a kind follow on each other
abbrev pub among : ℕ → ℕ → ℕ → Bool
among from n w = leb from w && ltb (w - from) n

-- the value due next after i words
abbrev pub next_open : List ℕ → List ℕ → Option Due
next_open rows [] = none
next_open rows (p ∷ []) = none
next_open rows (p ∷ (x ∷ os)) = do
  _ ← require (leb depth_limit x && ltb p (length rows))
  some (get_or rows p 0, deep_in x)

abbrev pub next : List ℕ → ℕ → List ℕ → Option Due
next rows zero os = some (0, depth_limit)
next rows (suc i) os = next_open rows os

-- what is open once that value's head is read: an open value of which nothing is due any more is open no longer
abbrev pub one_less : List ℕ → List ℕ
one_less [] = []
one_less (p ∷ []) = []
one_less (p ∷ (x ∷ os)) = cond (leb (left_in x) 1) os (suc p ∷ ((x - depth_limit) ∷ os))

abbrev pub rest : ℕ → List ℕ → List ℕ
rest zero os = []
rest (suc i) os = one_less os

-- and the head with its m arguments, whose kinds stand from p on
abbrev pub opened : ℕ → ℕ → ℕ → List ℕ → List ℕ
opened p m deep os = cond (eqb m 0) os (p ∷ (open_word m deep ∷ os))

-- what is open after one word more, if the word may stand there
abbrev pub step_by : View → ℕ → List ℕ → ℕ → Option (List ℕ)
step_by v i os w = do
  x ← next v.rows i os
  _ ← require (leb 1 x.1 && v.head x.0 w)
  some (opened (v.place w) (v.count w) (x.1 - 1) (rest i os))

-- the open values stand at the end of the words, and the words in front of them stay
abbrev pub laid : List ℕ → List ℕ → List ℕ
laid ws os = take (length ws - length os) ws ++ os

-- a signature as its table shows it
abbrev pub decoded_view : Signature → List ℕ → View
decoded_view sig t = record { rows = t; head = λ k w. is_some (arguments_at sig k w); place = λ w. stride * w + 2; count = head_arity t }

-- how open values stand in a walk: of each something is due, in kinds that are among n, and there is one at most for each depth
abbrev pub Nested : List ℕ → ℕ → List ℕ → Type 0
Nested rows n [] = Unit {0}
Nested rows n (p ∷ []) = ⊥
Nested rows n (p ∷ (x ∷ os)) = (depth_limit ≤ x) × (p + left_in x ≤ length rows) × All (λ k. k < n) (take (left_in x) (drop p rows)) × (length os + 2 * suc (deep_in x) ≤ open_limit) × Nested rows n os

-- where a value is due after i words, the open value at a place in the words can be counted on
abbrev pub Waiting : ℕ → ℕ → List ℕ → Type 0
Waiting i at ws = 0 < i → (at + 2 ≤ length ws) × (suc (get_or ws at 0) < word_limit) × (depth_limit ≤ get_or ws (at + 1) 0)

-- the answers of the code
abbrev pub next_as : Option Due → prelude.Option Due
next_as none = None
next_as (some x) = Some x

abbrev pub still_open : prelude.Option ℕ → List ℕ → Option (List ℕ)
still_open (Some n) ws = some (drop n ws)
still_open None ws = none

abbrev pub Inside : prelude.Option ℕ → Type 0
Inside (Some n) = n ≤ open_limit
Inside None = Unit {0}
