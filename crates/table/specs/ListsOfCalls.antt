-- 01, Table: lists of calls, and what is reckoned from their arguments, "neither from their answers nor from the table".
use Rattle.std.specs.Prelude.{List, [], ◌∷◌, cond, ℕ, eqb}
use Rattle.signature.specs.Signature.{Signature}
use Rattle.table.specs.Calls.{Entered, Enter, Withdraw, SetDefault, long_witness}
use Rattle.table.specs.Limits.{Limits}
use Rattle.table.specs.Refusals.{entry_refusal, withdrawal_refusal}
use Rattle.table.specs.Rule.{Rule, add_rule, take_out}

-- "A list has entries and withdrawals, any number in any order, also none, refused ones included."; 02, job 3: "the lists of demand 3 may hold the new call too"
-- An entry's arguments are its rule number, plan, pattern words and witness buffer
pub data ListCall : Type 0 where
  enter : ℕ → ℕ → List ℕ → List ℕ → ListCall
  withdraw : ℕ → ListCall
  set_default : ℕ → ListCall

-- "the call's rule number, plan and pattern are added as a rule"; "the held rule with the call's rule number is taken out"
abbrev pub changed : ListCall → List Rule → List Rule
changed (enter n plan ws witness) rs = add_rule (record { number = n; plan = plan; pattern = ws }) rs
changed (withdraw n) rs = take_out n rs
changed (set_default plan) rs = rs

-- what a call that is not refused makes of the default
abbrev pub changed_default : ListCall → ℕ → ℕ
changed_default (enter n plan ws witness) dft = dft
changed_default (withdraw n) dft = dft
changed_default (set_default plan) dft = plan

module _ (l : Limits) where
  -- "Each call gets the table as the last one left it": from a table through the calls, giving these numbers, to a table
  pub data Calls (ss : List ℕ) : List ℕ → List ListCall → List ℕ → List ℕ → Type 0 where
    no_call : {table : List ℕ} → Calls ss table [] [] table
    then_enter : {n plan : ℕ} {ws before witness after witness' last : List ℕ} {e : Entered} {cs : List ListCall} {ns : List ℕ} → Enter l ss n plan ws before witness e after witness' → Calls ss after cs ns last → Calls ss before (enter n plan ws witness ∷ cs) (e.number ∷ ns) last
    then_withdraw : {n number : ℕ} {before after last : List ℕ} {cs : List ListCall} {ns : List ℕ} → Withdraw l ss n before number after → Calls ss after cs ns last → Calls ss before (withdraw n ∷ cs) (number ∷ ns) last
    then_set : {plan number : ℕ} {before after last : List ℕ} {cs : List ListCall} {ns : List ℕ} → SetDefault l ss plan before number after → Calls ss after cs ns last → Calls ss before (set_default plan ∷ cs) (number ∷ ns) last

  -- "if one of its refusals other than 3 applies to its arguments and the rules held, the number reckoned is the first of these .. Otherwise it is 0"
  abbrev pub reckon_number : Signature → ListCall → List Rule → ℕ
  reckon_number sig (enter n plan ws witness) rs = cond (long_witness witness) (entry_refusal l sig n ws rs) 2
  reckon_number sig (withdraw n) rs = withdrawal_refusal n rs
  reckon_number sig (set_default plan) rs = 0

  -- on a refusal "nothing changes"
  abbrev pub reckon_rules : Signature → ListCall → List Rule → List Rule
  reckon_rules sig c rs = cond (eqb (reckon_number sig c rs) 0) (changed c rs) rs

  -- the rules that a list leaves: "At the start no rule is held"
  abbrev pub rules_left : Signature → List ListCall → List Rule → List Rule
  rules_left sig [] rs = rs
  rules_left sig (c ∷ cs) rs = rules_left sig cs (reckon_rules sig c rs)

  abbrev pub reckon_default : Signature → ListCall → List Rule → ℕ → ℕ
  reckon_default sig c rs dft = cond (eqb (reckon_number sig c rs) 0) (changed_default c dft) dft

  -- 02, job 3: "the default that a list leaves is what the last such call not refused set", or that at the start if there is none
  abbrev pub default_left : Signature → List ListCall → List Rule → ℕ → ℕ
  default_left sig [] rs dft = dft
  default_left sig (c ∷ cs) rs dft = default_left sig cs (reckon_rules sig c rs) (reckon_default sig c rs dft)

  -- the numbers reckoned, one for each call
  abbrev pub numbers_reckoned : Signature → List ListCall → List Rule → List ℕ
  numbers_reckoned sig [] rs = []
  numbers_reckoned sig (c ∷ cs) rs = reckon_number sig c rs ∷ numbers_reckoned sig cs (reckon_rules sig c rs)
