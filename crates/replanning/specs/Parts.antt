-- A list of open charges, and answers to its bookings, in words.
use Rattle.std.specs.Prelude.{◌≡◌, List, [], ◌∷◌, ◌++◌, ℕ, ◌*◌}
use Rattle.charges.specs.Charge.{Charge, ChargeWords}
use Rattle.charges.specs.Laws.{Each}
use Rattle.charges.specs.Limits.{charge_limit}

-- the words are the list of some open charges
pub record Charged (ws : List ℕ) : Type 0 where
  pub charges : List Charge
  pub words : ChargeWords ws charges

-- rule and plan of each
abbrev pub answer_words : List Charge → List ℕ
answer_words [] = []
answer_words (c ∷ cs) = c.rule ∷ (c.plan ∷ answer_words cs)

abbrev pub answers_room : ℕ
answers_room = 2 * charge_limit

-- the words begin with rule and plan of each of these
pub record Answers (cs : List Charge) (ws : List ℕ) : Type 0 where
  pub behind : List ℕ
  pub words_are : ws ≡ answer_words cs ++ behind

-- the booking stays
abbrev pub SameBooking : Charge → Charge → Type 0
SameBooking c d = d.booking ≡ c.booking

-- a list of open charges, and answers to be written into it
pub record Writable (answers ws : List ℕ) : Type 0 where
  pub old : List Charge
  pub new : List Charge
  pub words : ChargeWords ws old
  pub each : Each SameBooking old new
  pub found : Answers new answers
