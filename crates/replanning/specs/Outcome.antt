-- What the call hands back, with the list afterwards, as 02's outcome.
use Rattle.std.specs.Prelude.{List, ℕ, Result, Ok, Err}
use Rattle.signature.specs.Refusal.{number_in}
use Rattle.signature.specs.declared.refusals.Refusal.{Refusal}
use Rattle.charges.specs.Replan.{Outcome}

-- how many plans changed: "A refusal gives its number, other results 0"
abbrev pub changed_in : Result ℕ Refusal → ℕ
changed_in (Ok n) = n
changed_in (Err r) = 0

abbrev pub outcome : Result ℕ Refusal → List ℕ → Outcome
outcome r after = (number_in r, changed_in r, after)
