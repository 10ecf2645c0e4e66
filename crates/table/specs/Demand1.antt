-- Demand 1: "the call ends with the first refusal in document 01 that applies, and everything lent to it stays unchanged; only a refusal for overlap writes".
-- Each call's refusals are a list in checking order, each number with what makes it apply, said as existence. That every call ends, on any words, is what it is to be proved.
use Rattle.std.specs.Prelude.{◌≡◌, ◌⊎◌, List, [], ◌∷◌, false, ℕ, ◌+◌, ◌≤◌, ◌<◌, length, replicate}
use Rattle.std.proofs.Math.Option.{none}
use Rattle.signature.specs.Lawful.{SignatureWords, LawfulBooking}
use Rattle.signature.specs.Lists.{In}
use Rattle.signature.specs.Part.{part_call}
use Rattle.signature.specs.Signature.{Signature}
use Rattle.signature.specs.Value.{Value}
use Rattle.pattern.specs.Ambiguous.{Ambiguous}
use Rattle.pattern.specs.Limits.{variable_count}
use Rattle.pattern.specs.Linear.{linear_plus}
use Rattle.pattern.specs.Pattern.{Pattern}
use Rattle.pattern.specs.Side.{TooHeavy, WrongRange}
use Rattle.pattern.specs.Weight.{weight}
use Rattle.pattern.specs.WellFormed.{PatternWords}
use Rattle.tree.specs.Answer.{Answer}
use Rattle.tree.specs.Limits.{last_number, tree_limit}
use Rattle.tree.specs.Run.{run_words}
use Rattle.tree.specs.RunCall.{RunCall}
use Rattle.table.specs.Calls.{Entered, Empty, Enter, Withdraw, SetDefault, Compile, DecideCall}
use Rattle.table.specs.Gap.{GapCall}
use Rattle.table.specs.Limits.{limits, table_length, witness_length}
use Rattle.table.specs.Matrix.{tree_words}
use Rattle.table.specs.Refusals.{SharesHeld}
use Rattle.table.specs.Rule.{Rule, total_weight, default_of}
use Rattle.table.specs.Sound.{SoundTable}

-- n is the number of the first that applies: one applies and n is its number, or it does not and n is the first of the later ones; 0 where none applies
abbrev pub FirstOf : List (ℕ × Type 0) → ℕ → Type 0
FirstOf [] n = n ≡ 0
FirstOf (c ∷ cs) n = (c.1 × (n ≡ c.0)) ⊎ ((c.1 → ⊥) × FirstOf cs n)

-- "1. The signature is unlawful."
abbrev pub Unlawful : List ℕ → Type 0
Unlawful ss = (sig : Signature) → SignatureWords ss sig → ⊥

-- something holds of the lawful signature that the words are
abbrev pub Under : List ℕ → (Signature → Type 0) → Type 0
Under ss P = (sig : Signature) × SignatureWords ss sig × P sig

-- "2. A lent table is under" 4,290 words "or a witness buffer under 4,096."; 02, job 3
abbrev pub ShortTable : List ℕ → Type 0
ShortTable table = length table < table_length limits

abbrev pub ShortWitness : List ℕ → Type 0
ShortWitness witness = length witness < witness_length

-- "3. The table is not sound."
abbrev pub Unsound : List ℕ → List ℕ → Type 0
Unsound ss table = (sig : Signature) (rs : List Rule) → SignatureWords ss sig → SoundTable limits sig table rs → ⊥

-- something holds of the signature and of the rules in force
abbrev pub OfRulesInForce : List ℕ → List ℕ → (Signature → List Rule → Type 0) → Type 0
OfRulesInForce ss table P = (sig : Signature) × (rs : List Rule) × SignatureWords ss sig × SoundTable limits sig table rs × P sig rs

-- "4. The rule number is not 1 to 999."
abbrev pub NumberOutside : ℕ → Type 0
NumberOutside n = (n < 1) ⊎ (last_number < n)

-- "5. The number to enter is held."
abbrev pub Held : ℕ → List Rule → Type 0
Held n rs = (r : Rule) × In r rs × (r.number ≡ n)

-- "6. The number to withdraw is not held."
abbrev pub NotHeld : ℕ → List Rule → Type 0
NotHeld n rs = (r : Rule) → In r rs → r.number ≡ n → ⊥

-- "7. The pattern is malformed."
abbrev pub Malformed : Signature → List ℕ → Type 0
Malformed sig ws = (p : Pattern) → PatternWords sig ws p → ⊥

-- 02, job 1: "18, a range whose low exceeds its high or whose high exceeds 100, stands directly after 7"
abbrev pub WronglyRanged : Signature → List ℕ → Type 0
WronglyRanged sig ws = (p : Pattern) × PatternWords sig ws p × WrongRange sig 0 p

-- "8. It is not linear-plus."
abbrev pub NotLinear : Signature → List ℕ → Type 0
NotLinear sig ws = (p : Pattern) × PatternWords sig ws p × (linear_plus p ≡ false)

-- "9. Some part weighs over 64."
abbrev pub HeavyWords : Signature → List ℕ → Type 0
HeavyWords sig ws = (p : Pattern) × PatternWords sig ws p × TooHeavy sig 0 p

-- "10. It is ambiguous."
abbrev pub AmbiguousWords : Signature → List ℕ → Type 0
AmbiguousWords sig ws = (p : Pattern) × PatternWords sig ws p × Ambiguous sig 0 p

-- "11. 64 rules are held, or weights would total over 256."
abbrev pub Full : Signature → List ℕ → List Rule → Type 0
Full sig ws rs = (limits.rules ≤ length rs) ⊎ (limits.weight < weight sig ws + total_weight sig rs)

-- "13. The booking is unlawful."
abbrev pub UnlawfulBooking : Signature → List ℕ → Type 0
UnlawfulBooking sig bs = (v : Value) → LawfulBooking sig bs v → ⊥

-- "14. The tree exceeds the lent slice or 32,768 words."
abbrev pub TooLarge : ℕ → Signature → List Rule → List ℕ → Type 0
TooLarge dft sig rs space = (length space < length (tree_words dft sig rs)) ⊎ (tree_limit < length (tree_words dft sig rs))

-- "15. The tree is broken."
abbrev pub Broken : Signature → List ℕ → List ℕ → Type 0
Broken sig tree bs = run_words sig tree bs ≡ none

-- "Each call knows only these"
abbrev pub part_refusals : List ℕ → List ℕ → ℕ → List (ℕ × Type 0)
part_refusals ss bs place = (1, Unlawful ss) ∷ (13, Under ss (λ sig. UnlawfulBooking sig bs)) ∷ (16, length bs ≤ place) ∷ []

abbrev pub empty_refusals : List ℕ → List (ℕ × Type 0)
empty_refusals table = (2, ShortTable table) ∷ []

abbrev pub enter_refusals : List ℕ → ℕ → List ℕ → List ℕ → List ℕ → List (ℕ × Type 0)
enter_refusals ss n ws table witness =
    (1, Unlawful ss)
    ∷ (2, ShortTable table ⊎ ShortWitness witness)
    ∷ (3, Unsound ss table)
    ∷ (4, NumberOutside n)
    ∷ (5, OfRulesInForce ss table (λ sig rs. Held n rs))
    ∷ (7, OfRulesInForce ss table (λ sig rs. Malformed sig ws))
    ∷ (18, OfRulesInForce ss table (λ sig rs. WronglyRanged sig ws))
    ∷ (8, OfRulesInForce ss table (λ sig rs. NotLinear sig ws))
    ∷ (9, OfRulesInForce ss table (λ sig rs. HeavyWords sig ws))
    ∷ (10, OfRulesInForce ss table (λ sig rs. AmbiguousWords sig ws))
    ∷ (11, OfRulesInForce ss table (λ sig rs. Full sig ws rs))
    ∷ (12, OfRulesInForce ss table (λ sig rs. SharesHeld sig ws rs))
    ∷ []

abbrev pub withdraw_refusals : List ℕ → ℕ → List ℕ → List (ℕ × Type 0)
withdraw_refusals ss n table = (1, Unlawful ss) ∷ (2, ShortTable table) ∷ (3, Unsound ss table) ∷ (4, NumberOutside n) ∷ (6, OfRulesInForce ss table (λ sig rs. NotHeld n rs)) ∷ []

-- 02, job 3: "with refusals 1 to 3"
abbrev pub set_refusals : List ℕ → List ℕ → List (ℕ × Type 0)
set_refusals ss table = (1, Unlawful ss) ∷ (2, ShortTable table) ∷ (3, Unsound ss table) ∷ []

-- 02, job 4: "It takes refusals 1 to 3 of the list."
abbrev pub gap_refusals : List ℕ → List ℕ → List ℕ → List (ℕ × Type 0)
gap_refusals ss table witness = (1, Unlawful ss) ∷ (2, ShortTable table ⊎ ShortWitness witness) ∷ (3, Unsound ss table) ∷ []

abbrev pub compile_refusals : List ℕ → List ℕ → List ℕ → List (ℕ × Type 0)
compile_refusals ss table space = (1, Unlawful ss) ∷ (2, ShortTable table) ∷ (3, Unsound ss table) ∷ (14, OfRulesInForce ss table (λ sig rs. TooLarge (default_of table) sig rs space)) ∷ []

abbrev pub decide_refusals : List ℕ → List ℕ → List ℕ → List (ℕ × Type 0)
decide_refusals ss table bs = (1, Unlawful ss) ∷ (2, ShortTable table) ∷ (3, Unsound ss table) ∷ (13, Under ss (λ sig. UnlawfulBooking sig bs)) ∷ []

abbrev pub run_refusals : List ℕ → List ℕ → List ℕ → List (ℕ × Type 0)
run_refusals ss tree bs = (1, Unlawful ss) ∷ (13, Under ss (λ sig. UnlawfulBooking sig bs)) ∷ (15, Under ss (λ sig. Broken sig tree bs)) ∷ []

-- "A refusal gives its number, other results 0": an answer of zeros
abbrev pub zeros : Answer
zeros = record { rule = 0; plan = 0; places = replicate variable_count 0 }

pub record Demand1 : Type 0 where
  pub part : (ss bs : List ℕ) (place : ℕ) → FirstOf (part_refusals ss bs place) (part_call ss bs place).0 × (((part_call ss bs place).0 ≡ 0 → ⊥) → (part_call ss bs place).1 ≡ [])
  pub empty : (before : List ℕ) (number : ℕ) (after : List ℕ) → Empty limits before number after → FirstOf (empty_refusals before) number × ((number ≡ 0 → ⊥) → after ≡ before)
  -- the witness buffer is written on 12 alone
  pub enter : (ss : List ℕ) (n plan : ℕ) (ws before witness : List ℕ) (e : Entered) (after witness' : List ℕ) → Enter limits ss n plan ws before witness e after witness' → FirstOf (enter_refusals ss n ws before witness) e.number × ((e.number ≡ 0 → ⊥) → after ≡ before) × ((e.number ≡ 12 → ⊥) → (e.sharer ≡ 0) × (e.shown ≡ 0) × (witness' ≡ witness))
  pub withdraw : (ss : List ℕ) (n : ℕ) (before : List ℕ) (number : ℕ) (after : List ℕ) → Withdraw limits ss n before number after → FirstOf (withdraw_refusals ss n before) number × ((number ≡ 0 → ⊥) → after ≡ before)
  pub set_default : (ss : List ℕ) (plan : ℕ) (before : List ℕ) (number : ℕ) (after : List ℕ) → SetDefault limits ss plan before number after → FirstOf (set_refusals ss before) number × ((number ≡ 0 → ⊥) → after ≡ before)
  -- the witness buffer is written where a gap is shown alone
  pub gap : (ss table witness : List ℕ) (number len : ℕ) (witness' : List ℕ) → GapCall limits ss table witness number len witness' → FirstOf (gap_refusals ss table witness) number × ((number ≡ 0 → ⊥) → (len ≡ 0) × (witness' ≡ witness)) × (len ≡ 0 → witness' ≡ witness)
  pub compile : (ss table space : List ℕ) (number len : ℕ) (space' : List ℕ) → Compile limits ss table space number len space' → FirstOf (compile_refusals ss table space) number × ((number ≡ 0 → ⊥) → (len ≡ 0) × (space' ≡ space))
  -- decide and run write nothing that is lent
  pub decide : (ss table bs : List ℕ) (number : ℕ) (a : Answer) → DecideCall limits ss table bs number a → FirstOf (decide_refusals ss table bs) number × ((number ≡ 0 → ⊥) → a ≡ zeros)
  pub run : (ss tree bs : List ℕ) (number : ℕ) (a : Answer) → RunCall ss tree bs number a → FirstOf (run_refusals ss tree bs) number × ((number ≡ 0 → ⊥) → a ≡ zeros)
