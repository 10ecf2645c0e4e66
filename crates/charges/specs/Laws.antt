-- The laws of the list of open charges. The function `laws` promises them.
use Rattle.std.specs.Prelude.{◌↔◌, ◌≡◌, List, [], ◌∷◌, ◌++◌, ℕ, ◌≤◌, ◌<◌, length}
use Rattle.std.proofs.Math.Option.{Option, none, some}
use Rattle.signature.specs.Lists.{All}
use Rattle.signature.specs.Lawful.{SignatureWords, LawfulBooking}
use Rattle.signature.specs.Signature.{Signature}
use Rattle.signature.specs.Value.{Value}
use Rattle.tree.specs.Answer.{Answer}
use Rattle.tree.specs.Leaf.{Treed}
use Rattle.tree.specs.RunCall.{RunCall}
use Rattle.tree.specs.Tree.{Tree}
use Rattle.tree.specs.Words.{layout}
use Rattle.table.specs.Demand1.{FirstOf, Unlawful, Under, UnlawfulBooking, Broken}
use Rattle.charges.specs.Charge.{Charge, ChargeWords, MalformedList, read_charges, word_of}
use Rattle.charges.specs.Limits.{record_length}
use Rattle.charges.specs.Replan.{differing, ReplanCall}

-- the open charges of a list, none where it is malformed
abbrev pub charges_in : Option (List Charge) → List Charge
charges_in none = []
charges_in (some cs) = cs

-- "13 and 15 follow record by record"
abbrev pub by_record : List ℕ → List ℕ → List Charge → List (ℕ × Type 0)
by_record ss tree [] = []
by_record ss tree (c ∷ cs) = (13, Under ss (λ sig. UnlawfulBooking sig c.booking)) ∷ (15, Under ss (λ sig. Broken sig tree c.booking)) ∷ by_record ss tree cs

-- the refusals of the call, in checking order
abbrev pub replan_refusals : List ℕ → List ℕ → List ℕ → List (ℕ × Type 0)
replan_refusals ss tree before = (1, Unlawful ss) ∷ (20, MalformedList before) ∷ by_record ss tree (charges_in (read_charges before))

-- c answered again is d: the rule and the plan of the single run of its booking, which stays
pub record AnsweredAs (ss tree : List ℕ) (c d : Charge) : Type 0 where
  pub answer : Answer
  pub runs : RunCall ss tree c.booking 0 answer
  pub rule_is : d.rule ≡ answer.rule
  pub plan_is : d.plan ≡ answer.plan
  pub booking_is : d.booking ≡ c.booking

-- the one list stands for the other, charge by charge
pub data Each (R : Charge → Charge → Type 0) : List Charge → List Charge → Type 0 where
  each_none : Each R [] []
  each_also : {c d : Charge} {cs ds : List Charge} → R c d → Each R cs ds → Each R (c ∷ cs) (d ∷ ds)

-- n is the number of the first single run that is refused, 0 where none is
pub data FirstRun (ss tree : List ℕ) : List Charge → ℕ → Type 0 where
  none_refused : FirstRun ss tree [] 0
  refused_here : {c : Charge} {cs : List Charge} {n : ℕ} {a : Answer} → RunCall ss tree c.booking n a → (n ≡ 0 → ⊥) → FirstRun ss tree (c ∷ cs) n
  refused_later : {c : Charge} {cs : List Charge} {n : ℕ} {a : Answer} → RunCall ss tree c.booking 0 a → FirstRun ss tree cs n → FirstRun ss tree (c ∷ cs) n

-- what a call that is not refused leaves
pub record Replanned (ss tree before : List ℕ) (changed : ℕ) (after : List ℕ) : Type 0 where
  pub old : List Charge
  pub new : List Charge
  pub were : ChargeWords before old
  pub are : ChargeWords after new
  pub each : Each (AnsweredAs ss tree) old new
  pub count : changed ≡ differing old new

pub record Laws : Type 0 where
  -- exactly the lists of open charges are read, and what was read was there
  pub words : (ws : List ℕ) (cs : List Charge) → ((read_charges ws ≡ some cs) ↔ (ChargeWords ws cs))
  -- 20: a list is read or malformed, never both
  pub malformed : (ws : List ℕ) → ((read_charges ws ≡ none) ↔ (MalformedList ws))
  -- the first refusal that applies, with the whole list as it was
  pub refused : (ss tree before : List ℕ) (number changed : ℕ) (after : List ℕ) → ReplanCall ss tree before number changed after → FirstOf (replan_refusals ss tree before) number × ((number ≡ 0 → ⊥) → (changed ≡ 0) × (after ≡ before))
  -- "13 and 15 follow record by record", as the single runs give them
  pub runs : (ss tree before : List ℕ) (sig : Signature) (cs : List Charge) → SignatureWords ss sig → ChargeWords before cs → (number changed : ℕ) (after : List ℕ) → ReplanCall ss tree before number changed after → FirstRun ss tree cs number
  -- "each booking is answered again in its record", as its single run answers it
  pub single : (ss tree before : List ℕ) (changed : ℕ) (after : List ℕ) → ReplanCall ss tree before 0 changed after → Replanned ss tree before changed after
  -- "The number of charges and every booking are unchanged": only a record's first two words may change
  pub kept : (ss tree before : List ℕ) (number changed : ℕ) (after : List ℕ) → ReplanCall ss tree before number changed after → (length after ≡ length before) × ((k j : ℕ) → 2 ≤ j → j < record_length → word_of after k j ≡ word_of before k j)
  -- the same tree again changes nothing, and counts 0
  pub again : (ss tree before : List ℕ) (changed : ℕ) (after : List ℕ) → ReplanCall ss tree before 0 changed after → (number more : ℕ) (last : List ℕ) → ReplanCall ss tree after number more last → (number ≡ 0) × (more ≡ 0) × (last ≡ after)
  -- lawful bookings are never refused by a compiled tree, whatever stands behind it
  pub compiled : (ss before behind : List ℕ) (sig : Signature) (cs : List Charge) (t : Tree) (dft : ℕ) → SignatureWords ss sig → ChargeWords before cs → All (λ c. (v : Value) × LawfulBooking sig c.booking v) cs → Treed dft sig (0 ∷ []) 0 t → (number changed : ℕ) (after : List ℕ) → ReplanCall ss (layout t 0 ++ behind) before number changed after → number ≡ 0
