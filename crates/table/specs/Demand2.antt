-- Demand 2: its statement. In quotation marks are the sentences of the demand.
use Rattle.std.specs.Prelude.{◌≡◌, ◌↔◌, List, ◌++◌, ℕ, ◌≤◌, take}
use Rattle.std.proofs.Math.Option.{some}
use Rattle.signature.specs.Lists.{In}
use Rattle.signature.specs.Read.{read_signature, read_booking, Signed}
use Rattle.signature.specs.Signature.{Signature}
use Rattle.signature.specs.Value.{Value}
use Rattle.pattern.specs.Match.{Binds}
use Rattle.pattern.specs.Places.{PlacesOf}
use Rattle.pattern.specs.Takes.{Takes, TakesNot}
use Rattle.row.specs.Admitted.{Passed}
use Rattle.tree.specs.Answer.{Answer, no_rule}
use Rattle.tree.specs.RunCall.{RunCall}
use Rattle.table.specs.Calls.{Compile, DecideCall}
use Rattle.table.specs.Decide.{direct, OneRule, Answered}
use Rattle.table.specs.Limits.{limits}
use Rattle.table.specs.Rule.{Rule, default_of}
use Rattle.table.specs.Sound.{SoundTable}

-- what an answer says of each rule in force; no rule has the default's number, 0
pub record ByRelation (dft : ℕ) (sig : Signature) (rs : List Rule) (bs : List ℕ) (a : Answer) : Type 0 where
  pub numbered : (r : Rule) → In r rs → 1 ≤ r.number
  -- "A rule takes a booking exactly when the matching relation of The Algebra of Patterns (Binder and Ermantraut, 2025) holds"
  pub takes : (r : Rule) → In r rs → ((a.rule ≡ r.number) ↔ ((σ : Binds) × Takes sig r.pattern bs σ))
  -- "and does not take it exactly when that paper's other relation holds"
  pub takes_not : (r : Rule) → In r rs → ((a.rule ≡ r.number → ⊥) ↔ ((σ : Binds) × TakesNot sig r.pattern bs σ))
  -- "the bound places are those that the relation gives"
  pub places : (r : Rule) (σ : Binds) → In r rs → Takes sig r.pattern bs σ → (a.plan ≡ r.plan) × PlacesOf σ a.places
  -- rule 0 is the default, exactly where no rule takes the booking, and its plan is the default plan
  pub default : (a.rule ≡ 0) ↔ ((r : Rule) → In r rs → (σ : Binds) × TakesNot sig r.pattern bs σ)
  pub default_is : a.rule ≡ 0 → a ≡ no_rule dft

pub record Demand2 : Type 0 where
  -- decide, for every sound table that is handed in and every lawful booking
  pub decides : (ss : List ℕ) (sig : Signature) → read_signature ss ≡ some sig → (table : List ℕ) (rs : List Rule) → SoundTable limits sig table rs → (bs : List ℕ) (v : Value) → read_booking sig bs ≡ some v → (number : ℕ) (a : Answer) → DecideCall limits ss table bs number a → (number ≡ 0) × ByRelation (default_of table) sig rs bs a
  -- run, over the tree that compile gave for it, whatever stands behind the tree; the default is that of the table then
  pub runs : (ss : List ℕ) (sig : Signature) → read_signature ss ≡ some sig → (table : List ℕ) (rs : List Rule) → SoundTable limits sig table rs → (space space' behind : List ℕ) (len : ℕ) → Compile limits ss table space 0 len space' → (bs : List ℕ) (v : Value) → read_booking sig bs ≡ some v → (number : ℕ) (a : Answer) → RunCall ss (take len space' ++ behind) bs number a → (number ≡ 0) × ByRelation (default_of table) sig rs bs a
  -- for one rule past 7 to 10 and one lawful booking
  pub one_rule : (dft : ℕ) (sig : Signature) → Signed sig → (r : Rule) (bs : List ℕ) (v : Value) → Passed sig r.pattern → read_booking sig bs ≡ some v → OneRule dft sig r bs v
  -- for the rules of a sound table: `direct` is an answer by the one rule that takes the booking, or the default
  pub answered : (dft : ℕ) (sig : Signature) → Signed sig → (table : List ℕ) (rs : List Rule) → SoundTable limits sig table rs → (bs : List ℕ) (v : Value) → read_booking sig bs ≡ some v → Answered dft sig rs bs (direct dft sig rs v)
  -- and there is no other answer
  pub one_answer : (dft : ℕ) (sig : Signature) → Signed sig → (rs : List Rule) (bs : List ℕ) (a b : Answer) → Answered dft sig rs bs a → Answered dft sig rs bs b → a ≡ b
