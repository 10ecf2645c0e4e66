-- 02, job 6: an open charge, the words of the list of them, and refusal 20.
use Rattle.std.specs.Prelude.{◌⊎◌, ◌≡◌, List, [], ◌∷◌, ◌++◌, ◌&&◌, cond, ℕ, zero, suc, ◌+◌, ◌*◌, ◌-◌, ◌≤◌, ◌<◌, eqb, leb, length, replicate, get_or, take, drop}
use Rattle.std.proofs.Math.Option.{Option, none, some}
use Rattle.signature.specs.Lists.{◌>>=◌, require, all, is_empty, All}
use Rattle.charges.specs.Limits.{charge_limit, record_length, booking_at, booking_room}

-- an open charge: what its booking was answered with, and the booking
pub record Charge : Type 0 where
  pub rule : ℕ
  pub plan : ℕ
  pub booking : List ℕ

-- its record: "rule, plan, booking length, up to 61 booking words, zeros"
abbrev pub record_words : Charge → List ℕ
record_words c = c.rule ∷ (c.plan ∷ (length c.booking ∷ (c.booking ++ replicate (booking_room - length c.booking) 0)))

-- the records behind each other
abbrev pub list_words : List Charge → List ℕ
list_words [] = []
list_words (c ∷ cs) = record_words c ++ list_words cs

-- its booking has 1 to 61 words
abbrev pub Recordable : Charge → Type 0
Recordable c = (1 ≤ length c.booking) × (length c.booking ≤ booking_room)

-- the words are the list of these open charges
pub record ChargeWords (ws : List ℕ) (cs : List Charge) : Type 0 where
  pub few : length cs ≤ charge_limit
  pub recordable : All Recordable cs
  pub words_are : ws ≡ list_words cs

-- the 64 words of a record as an open charge
abbrev pub read_record : List ℕ → Option Charge
read_record ws = do
  _ ← require (leb 1 (get_or ws 2 0) && (leb (get_or ws 2 0) booking_room && all (λ w. eqb w 0) (drop (booking_at + get_or ws 2 0) ws)))
  some (record { rule = get_or ws 0 0; plan = get_or ws 1 0; booking = take (get_or ws 2 0) (drop booking_at ws) })

-- the open charges of a list of at most n records
abbrev pub read_records : ℕ → List ℕ → Option (List Charge)
read_records zero ws = cond (is_empty ws) (some []) none
read_records (suc n) ws = cond (is_empty ws) (some []) (do
  _ ← require (leb record_length (length ws))
  c ← read_record (take record_length ws)
  cs ← read_records n (drop record_length ws)
  some (c ∷ cs))

unfoldable pub read_charges : List ℕ → Option (List Charge)
read_charges ws = read_records charge_limit ws

-- the word j of record k
abbrev pub word_of : List ℕ → ℕ → ℕ → ℕ
word_of ws k j = get_or ws (record_length * k + j) 0

-- record k is there with all its words
abbrev pub Whole : List ℕ → ℕ → Type 0
Whole ws k = record_length * k + record_length ≤ length ws

-- "20 (over 48 records, a part of a record, a booking length outside 1 to 61, or a word not zero behind it)"
pub data MalformedList (ws : List ℕ) : Type 0 where
  over_48 : record_length * charge_limit < length ws → MalformedList ws
  part_of_a_record : (k : ℕ) → record_length * k < length ws → length ws < record_length * k + record_length → MalformedList ws
  length_outside : (k : ℕ) → Whole ws k → (word_of ws k 2 < 1) ⊎ (booking_room < word_of ws k 2) → MalformedList ws
  not_zero_behind : (k j : ℕ) → Whole ws k → booking_at + word_of ws k 2 ≤ j → j < record_length → (word_of ws k j ≡ 0 → ⊥) → MalformedList ws
