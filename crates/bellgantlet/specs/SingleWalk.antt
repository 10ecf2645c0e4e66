-- 02, job 2, over all calls: "Stepped once through any slice, it ends in the number that the check gives today." The function `single_walk` promises it.
use Rattle.std.specs.Prelude.{◌⊎◌, ◌≡◌, List, [], ◌∷◌, ℕ}
use Rattle.signature.specs.Part.{part_call}
use Rattle.signature.specs.Lawful.{SignatureWords}
use Rattle.signature.specs.Signature.{Signature}
use Rattle.stepping.specs.State.{begin_state, steps, end_number}
use Rattle.tree.specs.Answer.{Answer}
use Rattle.tree.specs.RunCall.{RunCall}
use Rattle.table.specs.Calls.{DecideCall}
use Rattle.table.specs.Demand1.{FirstOf, Unlawful, Under, UnlawfulBooking}
use Rattle.table.specs.Limits.{limits}
use Rattle.charges.specs.Charge.{Charge, ChargeWords}
use Rattle.charges.specs.Replan.{ReplanCall}

-- begin, a step for each word, end
abbrev pub stepped_number : List ℕ → List ℕ → ℕ
stepped_number ss bs = end_number (steps ss (begin_state ss) bs)

-- as the other calls have them
abbrev pub check_refusals : List ℕ → List ℕ → List (ℕ × Type 0)
check_refusals ss bs = (1, Unlawful ss) ∷ (13, Under ss (λ sig. UnlawfulBooking sig bs)) ∷ []

-- n is the number of the first booking that is not answered: that of its check, or 15 where the check gives 0; 0 where all are answered
pub data FirstChecked (ss : List ℕ) : List Charge → ℕ → Type 0 where
  all_answered : FirstChecked ss [] 0
  turned_down : {c : Charge} {cs : List Charge} {n : ℕ} → n ≡ stepped_number ss c.booking → (n ≡ 0 → ⊥) → FirstChecked ss (c ∷ cs) n
  broken_tree : {c : Charge} {cs : List Charge} → stepped_number ss c.booking ≡ 0 → FirstChecked ss (c ∷ cs) 15
  next_checked : {c : Charge} {cs : List Charge} {n : ℕ} → stepped_number ss c.booking ≡ 0 → FirstChecked ss cs n → FirstChecked ss (c ∷ cs) n

pub record SingleWalk : Type 0 where
  -- 1 or 13, whichever applies first, else 0
  pub refusals : (ss bs : List ℕ) → FirstOf (check_refusals ss bs) (stepped_number ss bs)
  -- every call that checks a booking gives this number, or where it is 0 what the call finds behind the check
  pub part : (ss bs : List ℕ) (place : ℕ) → ((part_call ss bs place).0 ≡ stepped_number ss bs) ⊎ ((stepped_number ss bs ≡ 0) × ((part_call ss bs place).0 ≡ 16))
  pub run : (ss tree bs : List ℕ) (number : ℕ) (a : Answer) → RunCall ss tree bs number a → (number ≡ stepped_number ss bs) ⊎ ((stepped_number ss bs ≡ 0) × (number ≡ 15))
  -- decide asks for the table between 1 and 13
  pub decide : (ss table bs : List ℕ) (number : ℕ) (a : Answer) → DecideCall limits ss table bs number a → (number ≡ stepped_number ss bs) ⊎ ((number ≡ 2) ⊎ (number ≡ 3))
  -- replan asks for the form of the list between 1 and 13, and then checks each of its bookings
  pub replan : (ss tree before : List ℕ) (sig : Signature) (cs : List Charge) → SignatureWords ss sig → ChargeWords before cs → (number changed : ℕ) (after : List ℕ) → ReplanCall ss tree before number changed after → FirstChecked ss cs number
