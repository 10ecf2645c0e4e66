-- 02, job 4: bookings that no rule takes. A gap is said by the paper's relation; the call as a relation, and what its answer says of decide and run.
use Rattle.std.specs.Prelude.{◌≡◌, ◌↔◌, List, ◌++◌, ℕ, ◌≤◌, length, take, drop}
use Rattle.std.proofs.Math.Option.{some}
use Rattle.signature.specs.Lawful.{LawfulBooking}
use Rattle.signature.specs.Lists.{In}
use Rattle.signature.specs.Read.{read_signature, read_booking}
use Rattle.signature.specs.Signature.{Signature}
use Rattle.signature.specs.Value.{Value}
use Rattle.pattern.specs.Match.{Binds}
use Rattle.pattern.specs.Takes.{TakesNot}
use Rattle.tree.specs.Answer.{Answer, no_rule}
use Rattle.tree.specs.RunCall.{RunCall}
use Rattle.table.specs.Calls.{Start, refused, begin, enter_start, Compile, DecideCall}
use Rattle.table.specs.Limits.{Limits, limits}
use Rattle.table.specs.Rule.{Rule, default_of, SameRules}
use Rattle.table.specs.Sound.{SoundTable}

-- "some lawful booking goes to the default": every rule in force fails on it.
-- "Levels count as their kind's members.": a lawful booking has any head of its kinds, a constructor or a level
pub record Gap (sig : Signature) (rs : List Rule) : Type 0 where
  pub booking : List ℕ
  pub value : Value
  pub lawful : LawfulBooking sig booking value
  pub failed : (r : Rule) → In r rs → (σ : Binds) × TakesNot sig r.pattern booking σ

-- "It gives one where it exists and denies it only where none exists."
-- "The booking goes into a witness buffer as with 12 and its length is returned; where there is none, the length is 0 and nothing is written."
-- Which booking is shown, and so its length, is open until job 8: it is lawful, and every rule in force fails on it
pub record ShowsGap (sig : Signature) (rs : List Rule) (len : ℕ) (witness witness' : List ℕ) : Type 0 where
  pub none_there : len ≡ 0 → (Gap sig rs → ⊥) × (witness' ≡ witness)
  pub one_there : 1 ≤ len → (g : Gap sig rs) × (len ≡ length g.booking) × (witness' ≡ g.booking ++ drop len witness)

-- gap: 1 to 3. A gap is no refusal
abbrev pub GapFrom : Start → List ℕ → ℕ → ℕ → List ℕ → Type 0
GapFrom (refused m) witness number len witness' = (number ≡ m) × (len ≡ 0) × (witness' ≡ witness)
GapFrom (begin sig rs) witness number len witness' = (number ≡ 0) × ShowsGap sig rs len witness witness'

-- gap: what it is given, its number, the booking's length, the witness buffer afterwards. "It takes refusals 1 to 3 of the list.": of 2 both lengths, as an entry does
pub record GapCall (l : Limits) (ss table witness : List ℕ) (number len : ℕ) (witness' : List ℕ) : Type 0 where
  pub result_is : GapFrom (enter_start l ss table witness) witness number len witness'

-- what the call's answer from a sound table says of the answers of decide and run
pub record GapTold (ss : List ℕ) (sig : Signature) (table : List ℕ) (rs : List Rule) (number len : ℕ) (witness' : List ℕ) : Type 0 where
  -- "It gives one where it exists and denies it only where none exists."
  pub exactly : number ≡ 0 → ((1 ≤ len) ↔ Gap sig rs)
  -- what stands first in the witness buffer is lawful and gets the default: decided directly, and by a run over a tree compiled from the table, whatever stands behind the tree
  pub shown : 1 ≤ len → (number ≡ 0) × (v : Value) × LawfulBooking sig (take len witness') v
  pub shown_decided : 1 ≤ len → (n : ℕ) (a : Answer) → DecideCall limits ss table (take len witness') n a → (n ≡ 0) × (a ≡ no_rule (default_of table))
  pub shown_run : 1 ≤ len → (space space' behind : List ℕ) (k n : ℕ) (a : Answer) → Compile limits ss table space 0 k space' → RunCall ss (take k space' ++ behind) (take len witness') n a → (n ≡ 0) × (a ≡ no_rule (default_of table))
  -- where none is shown every lawful booking gets a rule
  pub none_decided : number ≡ 0 → len ≡ 0 → (bs : List ℕ) (v : Value) → read_booking sig bs ≡ some v → (n : ℕ) (a : Answer) → DecideCall limits ss table bs n a → (n ≡ 0) × (1 ≤ a.rule)
  pub none_run : number ≡ 0 → len ≡ 0 → (bs : List ℕ) (v : Value) → read_booking sig bs ≡ some v → (space space' behind : List ℕ) (k n : ℕ) (a : Answer) → Compile limits ss table space 0 k space' → RunCall ss (take k space' ++ behind) bs n a → (n ≡ 0) × (1 ≤ a.rule)

pub record GapLaws : Type 0 where
  -- for every sound table that is handed in
  pub told : (ss : List ℕ) (sig : Signature) → read_signature ss ≡ some sig → (table : List ℕ) (rs : List Rule) → SoundTable limits sig table rs → (witness witness' : List ℕ) (number len : ℕ) → GapCall limits ss table witness number len witness' → GapTold ss sig table rs number len witness'
  -- two sound tables of equal rules, whatever their defaults and whatever was tried on them: both have a gap or none has
  pub same_rules : (ss : List ℕ) (sig : Signature) → read_signature ss ≡ some sig → (table table' : List ℕ) (rs qs : List Rule) → SoundTable limits sig table rs → SoundTable limits sig table' qs → SameRules rs qs → (witness witness' out out' : List ℕ) (len len' : ℕ) → GapCall limits ss table witness 0 len out → GapCall limits ss table' witness' 0 len' out' → ((1 ≤ len) ↔ (1 ≤ len'))
