-- The text's rules enter as a list of calls does.
use mathlib.Core.Path.{◌≡◌, refl, ap, ◌∙◌, sym, ap₂}
use mathlib.Core.List.{List, [], ◌∷◌}
use mathlib.Core.Bool.{cond, true, Bool, false}
use Prim.Native.Nat.{ℕ}
use lib.Dec.{eqb}
use Rattle.signature.specs.Signature.{Signature}
use Rattle.table.specs.Limits.{limits}
use Rattle.table.specs.Calls.{long_witness}
use Rattle.table.specs.ListsOfCalls.{enter, numbers_reckoned, rules_left, reckon_number, reckon_rules}
use Rattle.table.specs.Refusals.{entry_refusal}
use Rattle.table.specs.Rule.{Rule, add_rule}
use Rattle.text.specs.Print.{entries, first_refusal, enter_all, entered, stopped, EnteredAll}

-- "Rules enter in order; the first refusal n prints": the program stops at the first number reckoned that is not 0, and else holds the rules left
pub enters : (sig : Signature) (witness : List ℕ) → long_witness witness ≡ true → (qs rs : List Rule) → enter_all sig qs rs ≡ cond (eqb (first_refusal (numbers_reckoned limits sig (entries witness qs) rs)) 0) (entered (rules_left limits sig (entries witness qs) rs)) (stopped (first_refusal (numbers_reckoned limits sig (entries witness qs) rs)))
enters sig witness l [] rs = refl
enters sig witness l (q ∷ qs) rs = go (eqb (entry_refusal limits sig q.number q.pattern rs) 0) refl (enters sig witness l qs (add_rule q rs))
  where
    number_is : reckon_number limits sig (enter q.number q.plan q.pattern witness) rs ≡ entry_refusal limits sig q.number q.pattern rs
    number_is = ap (λ b. cond b (entry_refusal limits sig q.number q.pattern rs) 2) l

    rules_are : (b : Bool) → eqb (entry_refusal limits sig q.number q.pattern rs) 0 ≡ b → reckon_rules limits sig (enter q.number q.plan q.pattern witness) rs ≡ cond b (add_rule q rs) rs
    rules_are b e = ap (λ n. cond (eqb n 0) (add_rule q rs) rs) number_is ∙ ap (λ t. cond t (add_rule q rs) rs) e

    now : Bool → List Rule → EnteredAll
    now b xs = cond (eqb (cond b (first_refusal (numbers_reckoned limits sig (entries witness qs) xs)) (reckon_number limits sig (enter q.number q.plan q.pattern witness) rs)) 0) (entered (rules_left limits sig (entries witness qs) xs)) (stopped (cond b (first_refusal (numbers_reckoned limits sig (entries witness qs) xs)) (reckon_number limits sig (enter q.number q.plan q.pattern witness) rs)))

    go : (b : Bool) → eqb (entry_refusal limits sig q.number q.pattern rs) 0 ≡ b → enter_all sig qs (add_rule q rs) ≡ cond (eqb (first_refusal (numbers_reckoned limits sig (entries witness qs) (add_rule q rs))) 0) (entered (rules_left limits sig (entries witness qs) (add_rule q rs))) (stopped (first_refusal (numbers_reckoned limits sig (entries witness qs) (add_rule q rs)))) → enter_all sig (q ∷ qs) rs ≡ now (eqb (reckon_number limits sig (enter q.number q.plan q.pattern witness) rs) 0) (reckon_rules limits sig (enter q.number q.plan q.pattern witness) rs)
    go true e h = ap (λ t. cond t (enter_all sig qs (add_rule q rs)) (stopped (entry_refusal limits sig q.number q.pattern rs))) e ∙ h ∙ sym (ap₂ now (ap (λ n. eqb n 0) number_is ∙ e) (rules_are true e))
    go false e h =
        ap (λ t. cond t (enter_all sig qs (add_rule q rs)) (stopped (entry_refusal limits sig q.number q.pattern rs))) e
        ∙ sym (ap (λ b. now b (reckon_rules limits sig (enter q.number q.plan q.pattern witness) rs)) (ap (λ n. eqb n 0) number_is ∙ e)
        ∙ ap (λ t. cond t (entered (rules_left limits sig (entries witness qs) (reckon_rules limits sig (enter q.number q.plan q.pattern witness) rs))) (stopped (reckon_number limits sig (enter q.number q.plan q.pattern witness) rs))) (ap (λ n. eqb n 0) number_is ∙ e)
        ∙ ap stopped number_is)
