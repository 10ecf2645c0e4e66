-- 02, job 2: "One step takes the signature, the state so far (at most 2,048 bytes) and the next word." The state's words, and what begin, a step and end make of any words.
use Rattle.std.specs.Prelude.{List, [], ◌∷◌, map, Bool, cond, ◌&&◌, ◌||◌, ℕ, suc, ◌+◌, ◌-◌, ◌*◌, ◌/◌, ◌%◌, leb, ltb, eqb, length, drop, get_or, set, replicate}
use Rattle.std.proofs.Math.Option.{Option, some, none}
use Rattle.signature.specs.Limits.{argument_limit, booking_limit, constructor_limit, kind_limit, level_base}
use Rattle.signature.specs.Lists.{◌>>=◌, require, count_up, first}
use Rattle.signature.specs.Decoded.{stride}
use Rattle.signature.specs.Read.{read_signature}
use Rattle.signature.specs.Signature.{Signature, heads}
use Rattle.booking.specs.Walk.{View, open_limit, among, step_by, laid}

-- the refusal that no later word mends, 0 while there is none
abbrev pub number_at : ℕ
number_at = 0

-- how many words were read
abbrev pub read_at : ℕ
read_at = 1

-- how many words of open values there are
abbrev pub open_at : ℕ
open_at = 2

-- of each kind its first head and how many they are
abbrev pub heads_at : ℕ
heads_at = 3

-- of each constructor the index in the signature's words at which its row begins
abbrev pub rows_at : ℕ
rows_at = heads_at + 2 * kind_limit

-- the open values, at the end
abbrev pub values_at : ℕ
values_at = rows_at + constructor_limit

abbrev pub state_words : ℕ
state_words = values_at + open_limit

abbrev pub number_in : List ℕ → ℕ
number_in st = get_or st number_at 0

abbrev pub read_in : List ℕ → ℕ
read_in st = get_or st read_at 0

abbrev pub opened_in : List ℕ → ℕ
opened_in st = get_or st open_at 0

abbrev pub open_in : List ℕ → List ℕ
open_in st = drop (state_words - opened_in st) st

abbrev pub row_in : List ℕ → ℕ → ℕ
row_in st w = get_or st (rows_at + w) 0

-- where the rows of constructors begin, the first of them at index i
abbrev pub row_starts : ℕ → Signature → List ℕ
row_starts i [] = []
row_starts i (c ∷ cs) = i ∷ row_starts (i + 2 + length c.args) cs

-- 0 where there is no such constructor
abbrev pub row_word : Signature → ℕ → ℕ
row_word sig c = get_or (row_starts 1 sig) c 0

-- 0 and 0 where there is no such kind
abbrev pub head_word : Signature → ℕ → ℕ
head_word sig j = cond (eqb (j % 2) 0) (first (heads sig (j / 2))) (length (heads sig (j / 2)))

-- begin: no word was read and nothing is open
abbrev pub begun_word : Signature → ℕ → ℕ
begun_word sig i = cond (ltb i heads_at) 0 (cond (ltb i rows_at) (head_word sig (i - heads_at)) (cond (ltb i values_at) (row_word sig (i - rows_at)) 0))

abbrev pub begun : Option Signature → List ℕ
begun none = 1 ∷ replicate (state_words - 1) 0
begun (some sig) = map (begun_word sig) (count_up 0 state_words)

abbrev pub begin_state : List ℕ → List ℕ
begin_state ss = begun (read_signature ss)

-- a lawful signature has no more words
abbrev pub signature_limit : ℕ
signature_limit = 1 + constructor_limit * stride

-- the signature as the state shows it: a row is looked up where the state says that it begins
abbrev pub count_in : List ℕ → List ℕ → ℕ → ℕ
count_in ss st w = cond (leb level_base w) 0 (get_or ss (suc (row_in st w)) 0)

abbrev pub has_row : List ℕ → List ℕ → ℕ → Bool
has_row ss st w = leb level_base w || (ltb w constructor_limit && (ltb (suc (row_in st w)) (length ss) && leb (count_in ss st w) argument_limit))

abbrev pub head_in : List ℕ → ℕ → ℕ → Bool
head_in st k w = ltb k kind_limit && among (get_or st (heads_at + 2 * k) 0) (get_or st (suc (heads_at + 2 * k)) 0) w

abbrev pub state_view : List ℕ → List ℕ → View
state_view ss st = record { rows = ss; head = λ k w. head_in st k w && has_row ss st w; place = λ w. row_in st w + 2; count = count_in ss st }

-- what is open after one word more, if the word may stand there: "a 4,097th word" may not
abbrev pub step_in : List ℕ → List ℕ → ℕ → Option (List ℕ)
step_in ss st w = do
  _ ← require (leb (length ss) signature_limit && (ltb (read_in st) booking_limit && leb (opened_in st + 2) open_limit))
  step_by (state_view ss st) (read_in st) (open_in st) w

-- the state with what is open then
abbrev pub moved : List ℕ → Option (List ℕ) → List ℕ
moved st none = st
moved st (some os) = set (set (laid st os) read_at (suc (read_in st))) open_at (length os)

-- a booking gone wrong stays so
abbrev pub after : List ℕ → Option (List ℕ) → List ℕ
after st none = set st number_at 13
after st (some os) = moved st (some os)

-- one step, whatever the words of the state are
abbrev pub step_state : List ℕ → List ℕ → ℕ → List ℕ
step_state ss st w = cond (eqb (number_in st) 0) (after st (step_in ss st w)) st

-- what can be said so far: 1 or 13 where no later word mends it, else 0
abbrev pub refusal_of : ℕ → ℕ
refusal_of q = cond (eqb q 0) 0 (cond (eqb q 1) 1 13)

abbrev pub refusal_in : List ℕ → ℕ
refusal_in st = refusal_of (number_in st)

-- end: 13 where nothing was read or a value is open
abbrev pub ended_in : List ℕ → ℕ
ended_in st = cond (eqb (read_in st) 0) 13 (cond (eqb (opened_in st) 0) 0 13)

abbrev pub end_number : List ℕ → ℕ
end_number st = cond (eqb (number_in st) 0) (ended_in st) (refusal_in st)

-- a step for each word of a slice
abbrev pub steps : List ℕ → List ℕ → List ℕ → List ℕ
steps ss st [] = st
steps ss st (w ∷ ws) = steps ss (step_state ss st w) ws
