-- 01, demands 2 and 3: the answer of rules to a booking, directly and as what a run must give.
use Rattle.std.specs.Prelude.{◌≡◌, ◌⊎◌, List, [], ◌∷◌, ℕ}
use Rattle.std.proofs.Math.Option.{Option, none, some}
use Rattle.signature.specs.Lists.{◌>>=◌, In}
use Rattle.signature.specs.Signature.{Signature}
use Rattle.signature.specs.Value.{Value}
use Rattle.pattern.specs.Decide.{Out, fail, fit, decide}
use Rattle.pattern.specs.Match.{Binds}
use Rattle.pattern.specs.Places.{bind_all, unbound, PlacesOf}
use Rattle.pattern.specs.Read.{read_pattern}
use Rattle.pattern.specs.Takes.{Takes, TakesNot}
use Rattle.tree.specs.Answer.{Answer, no_rule}
use Rattle.table.specs.Rule.{Rule}

-- the answer by a rule whose pattern fits
abbrev pub answer_by : Rule → Out → Option Answer
answer_by r (fail σ) = none
answer_by r (fit σ) = some (record { rule = r.number; plan = r.plan; places = bind_all σ unbound })

-- the answer that is there, or else the other
abbrev pub or_none : Option Answer → Answer → Answer
or_none none a = a
or_none (some b) a = b

module _ (dft : ℕ) where
  -- "deciding answers in the form of a run": the answer of the rules by themselves
  abbrev pub direct : Signature → List Rule → Value → Answer
  direct sig [] v = no_rule dft
  direct sig (r ∷ rs) v = or_none (read_pattern sig r.pattern >>= λ p. answer_by r (decide p v 0)) (direct sig rs v)

module _ (dft : ℕ) (sig : Signature) where
  -- demand 2, for one rule: it takes the booking where the relation fits, and not where it fails; never both, never neither; one list of 16 places
  pub record OneRule (r : Rule) (bs : List ℕ) (v : Value) : Type 0 where
    pub either : ((σ : Binds) × Takes sig r.pattern bs σ) ⊎ ((σ : Binds) × TakesNot sig r.pattern bs σ)
    pub not_both : (σ τ : Binds) → Takes sig r.pattern bs σ → TakesNot sig r.pattern bs τ → ⊥
    pub taken : (σ : Binds) → Takes sig r.pattern bs σ → direct dft sig (r ∷ []) v ≡ record { rule = r.number; plan = r.plan; places = bind_all σ unbound }
    pub places : (σ : Binds) → Takes sig r.pattern bs σ → PlacesOf σ (bind_all σ unbound)
    pub one_list : (σ τ : Binds) → Takes sig r.pattern bs σ → Takes sig r.pattern bs τ → bind_all σ unbound ≡ bind_all τ unbound
    pub not_taken : (σ : Binds) → TakesNot sig r.pattern bs σ → direct dft sig (r ∷ []) v ≡ no_rule dft

  -- demands 2 and 3: an answer by the one rule in force that takes the booking, or the default; "a variable that the relation doesn't bind is unbound"
  pub data Answered (rs : List Rule) (bs : List ℕ) : Answer → Type 0 where
    by_rule : (r : Rule) (σ : Binds) (places : List ℕ) → In r rs → Takes sig r.pattern bs σ → ((s : Rule) (τ : Binds) → In s rs → Takes sig s.pattern bs τ → s ≡ r) → ((τ : Binds) → Takes sig r.pattern bs τ → PlacesOf τ places) → Answered rs bs (record { rule = r.number; plan = r.plan; places = places })
    by_default : ((r : Rule) → In r rs → (σ : Binds) × TakesNot sig r.pattern bs σ) → Answered rs bs (no_rule dft)
