-- The answers written into a list, one record after the other.
use mathlib.Core.Path.{◌≡◌, refl, sym, ap, ap₂, subst, ◌∙◌}
use mathlib.Core.List.{List, [], ◌∷◌, ◌++◌, append_assoc, append-nil}
use mathlib.Core.Bool.{Bool, true, false, cond, not}
use Prim.Native.Nat.{ℕ, suc, ◌+◌, ◌*◌, ◌-◌, ◌≤◌, ◌<◌}
use native.Mathlib.Omega.{arith}
use lib.Dec.{eqb}
use mir.Val.{bool_byte}
use lib.ListN.{length, get_or, set, replicate, length-append}
use lib.Seq.{append_snoc, get_or_at, get_or-append-add}
use Rattle.signature.specs.Lists.{All, none_left, also}
use Rattle.charges.specs.Charge.{Charge, record_words, list_words, Recordable}
use Rattle.charges.specs.Laws.{Each, each_none, each_also}
use Rattle.charges.specs.Limits.{charge_limit, record_length, booking_room}
use Rattle.charges.specs.Replan.{differing}
use Rattle.charges.proofs.Words.{record_long}
use Rattle.replanning.specs.Parts.{answer_words, SameBooking, Writable}
use Rattle.replanning.proofs.Found.{pair_set, answers_behind, answers_length}

list_words_more : (cs : List Charge) (c : Charge) (ws : List ℕ) → list_words (cs ++ (c ∷ [])) ++ ws ≡ list_words cs ++ (record_words c ++ ws)
list_words_more [] c ws = ap (λ l. l ++ ws) (append-nil (record_words c))
list_words_more (d ∷ cs) c ws = append_assoc (record_words d) (list_words (cs ++ (c ∷ []))) ws ∙ ap (λ l. record_words d ++ l) (list_words_more cs c ws) ∙ sym (append_assoc (record_words d) (list_words cs) (record_words c ++ ws))

differing_most : (cs ds : List Charge) → differing cs ds ≤ length cs
differing_most [] [] = omega arith
differing_most [] (d ∷ ds) = omega arith
differing_most (c ∷ cs) [] = omega arith
differing_most (c ∷ cs) (d ∷ ds) = go (eqb c.plan d.plan) (differing_most cs ds)
  where
    go : (b : Bool) → differing cs ds ≤ length cs → cond b 0 1 + differing cs ds ≤ suc (length cs)
    go true h = omega arith
    go false h = omega arith

-- a word that is 1 where two differ
pub differs : (b : Bool) → bool_byte (not b) ≡ cond b 0 1
differs true = refl
differs false = refl

-- the next charge, and what it becomes
record Next (old new : List Charge) : Type 0 where
  pub was : Charge
  pub becomes : Charge
  pub later_old : List Charge
  pub later_new : List Charge
  pub old_is : old ≡ was ∷ later_old
  pub new_is : new ≡ becomes ∷ later_new
  pub recordable : Recordable was
  pub later_recordable : All Recordable later_old
  pub same : SameBooking was becomes
  pub later_each : Each SameBooking later_old later_new

next_of : {old new : List Charge} → All Recordable old → Each SameBooking old new → 0 < length (list_words old) → Next old new
next_of none_left each_none l = absurd (omega arith)
next_of (also c {xs = cs} r rs) (each_also {d = d} {ds = ds} e es) l = record { was = c; becomes = d; later_old = cs; later_new = ds; old_is = refl; new_is = refl; recordable = r; later_recordable = rs; same = e; later_each = es }

none_of : {old new : List Charge} → All Recordable old → Each SameBooking old new → length (list_words old) < record_length → (old ≡ []) × (new ≡ [])
none_of none_left each_none l = (refl, refl)
none_of (also c {xs = cs} r rs) (each_also e es) l = absurd (omega (arith, length-append (record_words c) (list_words cs), record_long c r))

module _ {answers ws : List ℕ} (w : Writable answers ws) where
  -- n new charges stand in front, the old ones behind them
  pub record Writing (list : List ℕ) (n changed : ℕ) : Type 0 where
    pub written : List Charge
    pub old : List Charge
    pub new : List Charge
    pub new_is : w.new ≡ written ++ new
    pub list_is : list ≡ list_words written ++ list_words old
    pub at_is : length (list_words written) ≡ record_length * n
    pub i_is : length (answer_words written) ≡ 2 * n
    pub recordable : All Recordable old
    pub each : Each SameBooking old new
    pub count : changed + differing old new ≡ differing w.old w.new

  pub writing_start : Writing ws 0 0
  writing_start = record { written = []; old = w.old; new = w.new; new_is = refl; list_is = w.words.words_are; at_is = refl; i_is = refl; recordable = w.words.recordable; each = w.each; count = omega arith }

  module _ {list : List ℕ} {n changed : ℕ} (g : Writing list n changed) where
    abbrev at : ℕ
    at = record_length * n

    abbrev i : ℕ
    i = 2 * n

    old_length : length list ≡ at + length (list_words g.old)
    old_length = omega (arith, ap length g.list_is, length-append (list_words g.written) (list_words g.old), g.at_is)

    pub all_written : length list < at + record_length → (changed ≡ differing w.old w.new) × (list ≡ list_words w.new)
    all_written l =
        let (o, e) = none_of g.recordable g.each (omega (arith, old_length)) in
        (omega (arith, g.count, ap₂ differing o e), g.list_is ∙ ap (λ x. list_words g.written ++ list_words x) o ∙ append-nil (list_words g.written) ∙ sym (ap list_words (g.new_is ∙ ap (λ x. g.written ++ x) e ∙ append-nil g.written)))

    module _ (more : at < length list) where
      abbrev here : Next g.old g.new
      here = next_of g.recordable g.each (omega (arith, old_length))

      list_here : list ≡ list_words g.written ++ (record_words here.was ++ list_words here.later_old)
      list_here = g.list_is ∙ ap (λ x. list_words g.written ++ list_words x) here.old_is

      pub whole : at + record_length ≤ length list
      whole = omega (arith, old_length, ap (λ x. length (list_words x)) here.old_is, length-append (record_words here.was) (list_words here.later_old), record_long here.was here.recordable)

      old_plan : get_or list (at + 1) 0 ≡ here.was.plan
      old_plan = ap₂ (λ l m. get_or l (m + 1) 0) list_here (sym g.at_is) ∙ get_or-append-add (list_words g.written) (record_words here.was ++ list_words here.later_old) 1 0

      answers_here : answers ≡ answer_words g.written ++ (here.becomes.rule ∷ (here.becomes.plan ∷ (answer_words here.later_new ++ w.found.behind)))
      answers_here = w.found.words_are ∙ ap (λ x. answer_words x ++ w.found.behind) (g.new_is ∙ ap (λ x. g.written ++ x) here.new_is) ∙ answers_behind g.written (here.becomes ∷ here.later_new) w.found.behind

      pub found : i + 2 ≤ length answers
      found = omega (arith, ap length answers_here, length-append (answer_words g.written) (here.becomes.rule ∷ (here.becomes.plan ∷ (answer_words here.later_new ++ w.found.behind))), g.i_is)

      new_rule : get_or answers i 0 ≡ here.becomes.rule
      new_rule = ap (λ l. get_or l i 0) answers_here ∙ get_or_at (answer_words g.written) here.becomes.rule _ 0 i g.i_is

      new_plan : get_or answers (i + 1) 0 ≡ here.becomes.plan
      new_plan = ap₂ (λ l m. get_or l (m + 1) 0) answers_here (sym g.i_is) ∙ get_or-append-add (answer_words g.written) (here.becomes.rule ∷ (here.becomes.plan ∷ (answer_words here.later_new ++ w.found.behind))) 1 0

      module _ (k : ℕ) (differ : k ≡ cond (eqb (get_or list (at + 1) 0) (get_or answers (i + 1) 0)) 0 1) where
        one_more : changed + k + differing here.later_old here.later_new ≡ differing w.old w.new
        one_more = omega (arith, g.count, ap₂ differing here.old_is here.new_is, differ ∙ ap₂ (λ a b. cond (eqb a b) 0 1) old_plan new_plan)

        pub few : changed + k ≤ charge_limit
        few = omega (arith, one_more, differing_most w.old w.new, w.words.few)

        pub writing_next : Writing (set (set list at (get_or answers i 0)) (at + 1) (get_or answers (i + 1) 0)) (n + 1) (changed + k)
        writing_next =
            let c : Charge = here.was in
            let d : Charge = here.becomes in
            let later : List ℕ = list_words here.later_old in
            let behind : List ℕ → List ℕ = λ bs. (length bs ∷ (bs ++ replicate (booking_room - length bs) 0)) ++ later in
            let room : Recordable d = subst (λ bs. (1 ≤ length bs) × (length bs ≤ booking_room)) (sym here.same) here.recordable in
            record {
              written = g.written ++ (d ∷ []);
              old = here.later_old;
              new = here.later_new;
              new_is = g.new_is ∙ ap (λ x. g.written ++ x) here.new_is ∙ sym (append_snoc g.written d here.later_new);
              list_is = ap (λ l. set (set l at (get_or answers i 0)) (at + 1) (get_or answers (i + 1) 0)) list_here ∙ pair_set (list_words g.written) c.rule c.plan (behind c.booking) (get_or answers i 0) (get_or answers (i + 1) 0) at g.at_is ∙ ap₂ (λ r p. list_words g.written ++ (r ∷ (p ∷ behind c.booking))) new_rule new_plan ∙ ap (λ bs. list_words g.written ++ (d.rule ∷ (d.plan ∷ behind bs))) (sym here.same) ∙ sym (list_words_more g.written d later);
              at_is = omega (arith, ap length (list_words_more g.written d []), length-append (list_words (g.written ++ (d ∷ []))) [], length-append (list_words g.written) (record_words d ++ []), length-append (record_words d) [], record_long d room, g.at_is);
              i_is = omega (arith, answers_length (g.written ++ (d ∷ [])), answers_length g.written, length-append g.written (d ∷ []), g.i_is);
              recordable = here.later_recordable;
              each = here.later_each;
              count = one_more;
            }
