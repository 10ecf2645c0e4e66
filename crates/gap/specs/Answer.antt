-- The gap call past refusals 1 and 2.
use Rattle.std.specs.Prelude.{◌≡◌, List, ℕ, ◌≤◌, Option, Some, None, IfSome, Result, Ok, Err, IfOk}
use Rattle.signature.specs.Signature.{Signature}
use Rattle.table.specs.Calls.{on_sound}
use Rattle.table.specs.Gap.{GapFrom}
use Rattle.table.specs.Limits.{limits}
use Rattle.table.specs.Sound.{sound}
use Rattle.signature.specs.Refusal.{number_in}
use Rattle.signature.specs.declared.refusals.Refusal.{Refusal}

abbrev pub GapsAs : Signature → List ℕ → List ℕ → ℕ → ℕ → List ℕ → Type 0
GapsAs sig table witness number len witness' = GapFrom (on_sound sig (sound limits sig table)) witness number len witness'

-- the length of the booking that is shown, 0 where there is none
abbrev pub shown : Option ℕ → ℕ
shown None = 0
shown (Some n) = n

-- "other results 0" on a refusal
abbrev pub length_in : Result (Option ℕ) Refusal → ℕ
length_in (Ok m) = shown m
length_in (Err r) = 0

-- a booking that is shown has a word: None alone says that there is none
abbrev pub Worded : Result (Option ℕ) Refusal → Type 0
Worded r = IfOk r (λ m. IfSome m (λ n. 1 ≤ n))

-- no room tells P, and nothing is written
abbrev pub TriedAs : Type 0 → Signature → List ℕ → List ℕ → Option (Result (Option ℕ) Refusal) → List ℕ → Type 0
TriedAs P sig table witness None witness' = P × (witness' ≡ witness)
TriedAs P sig table witness (Some r) witness' = Worded r × GapsAs sig table witness (number_in r) (length_in r) witness'
