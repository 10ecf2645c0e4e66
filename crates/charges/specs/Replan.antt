-- 02, job 6: "Given a new tree, each booking is answered again in its record." The call replan.
use Rattle.std.specs.Prelude.{◌≡◌, List, [], ◌∷◌, map, cond, ℕ, ◌+◌, eqb}
use Rattle.std.proofs.Math.Option.{Option, none, some}
use Rattle.signature.specs.Read.{read_booking, read_signature}
use Rattle.signature.specs.Signature.{Signature}
use Rattle.tree.specs.Answer.{Answer}
use Rattle.tree.specs.RunCall.{run_booking}
use Rattle.charges.specs.Charge.{Charge, list_words, read_charges}

module _ (sig : Signature) (tree : List ℕ) where
  -- what the new tree answers to its booking: the number and the answer
  abbrev pub new_answer : Charge → ℕ × Answer
  new_answer c = run_booking sig tree (read_booking sig c.booking)

  -- "13 and 15 follow record by record": the number of the first record that is refused, 0 where none is
  abbrev pub first_refused : List Charge → ℕ
  first_refused [] = 0
  first_refused (c ∷ cs) = cond (eqb (new_answer c).0 0) (first_refused cs) (new_answer c).0

  -- "answered again in its record": its rule and its plan, and no more
  abbrev pub answered : Charge → Charge
  answered c = record { rule = (new_answer c).1.rule; plan = (new_answer c).1.plan; booking = c.booking }

-- "the count of changed plans": in how many places the plans of two lists differ
abbrev pub differing : List Charge → List Charge → ℕ
differing [] [] = 0
differing [] (d ∷ ds) = 0
differing (c ∷ cs) [] = 0
differing (c ∷ cs) (d ∷ ds) = cond (eqb c.plan d.plan) 0 1 + differing cs ds

-- the number, the count of changed plans, and the list afterwards
abbrev pub Outcome : Type 0
Outcome = ℕ × ℕ × List ℕ

-- "One bad record leaves the whole list as it was"; "A refusal gives its number, other results 0"
abbrev pub refused : ℕ → List ℕ → Outcome
refused n before = (n, 0, before)

abbrev pub replan_charges : Signature → List ℕ → List ℕ → List Charge → Outcome
replan_charges sig tree before cs = cond (eqb (first_refused sig tree cs) 0) (0, differing cs (map (answered sig tree) cs), list_words (map (answered sig tree) cs)) (refused (first_refused sig tree cs) before)

-- 20 "is checked over the whole list after 1"
abbrev pub replan_list : Signature → List ℕ → List ℕ → Option (List Charge) → Outcome
replan_list sig tree before none = refused 20 before
replan_list sig tree before (some cs) = replan_charges sig tree before cs

-- 1: the signature is unlawful
abbrev pub replan_signature : Option Signature → List ℕ → List ℕ → Outcome
replan_signature none tree before = refused 1 before
replan_signature (some sig) tree before = replan_list sig tree before (read_charges before)

-- replan: what it is given, the number, the count of changed plans, and the list afterwards
pub record ReplanCall (ss tree before : List ℕ) (number changed : ℕ) (after : List ℕ) : Type 0 where
  pub result_is : (number, changed, after) ≡ replan_signature (read_signature ss) tree before
