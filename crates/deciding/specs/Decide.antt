-- The rules in force against a booking.
use Rattle.std.specs.Prelude.{◌≡◌, List, true, ℕ, ◌+◌, ◌<◌, length, get_or}
use Rattle.std.proofs.Math.Option.{some}
use Rattle.signature.specs.Read.{read_booking}
use Rattle.signature.specs.Value.{Value}
use Rattle.pattern.specs.Decide.{Out, decide, is_fit, fit, fail}
use Rattle.pattern.specs.Places.{bind_all, unbound}
use Rattle.matching.specs.Asked.{Asked}
use Rattle.tree.specs.Answer.{Answer}
use Rattle.opening.specs.Open.{Ruled}

-- rules in force and a lawful booking
pub record Judging (t table bs : List ℕ) : Type 0 where
  pub force : Ruled t table
  pub value : Value
  pub booked : read_booking force.known.sig bs ≡ some value

-- a rule at an index whose pattern takes the booking
pub record ByRule (t table : List ℕ) (at : ℕ) (ws bs : List ℕ) : Type 0 where
  pub asked : Asked t ws bs
  pub fits : (q : Asked t ws bs) → is_fit (decide q.pattern q.value 0) ≡ true
  pub within : at + 1 < length table

-- the places that are bound
abbrev pub places_by : Out → List ℕ
places_by (fit σ) = bind_all σ unbound
places_by (fail σ) = unbound

-- its number, its plan and the places that it binds
abbrev pub answered_by : {t table : List ℕ} {at : ℕ} {ws bs : List ℕ} → ByRule t table at ws bs → Answer
answered_by {table = table} {at = at} g = record { rule = get_or table at 0; plan = get_or table (at + 1) 0; places = places_by (decide g.asked.pattern g.asked.value 0) }
