-- The bookings of a list answered, one record after the other.
use mathlib.Core.Path.{◌≡◌, refl, sym, ap, ap₂, subst, ◌∙◌}
use mathlib.Core.List.{List, [], ◌∷◌, ◌++◌, map, append-nil}
use mathlib.Core.Bool.{cond}
use Prim.Native.Nat.{ℕ, ◌+◌, ◌*◌, ◌-◌, min, ◌≤◌, ◌<◌}
use native.Mathlib.Omega.{arith}
use lib.Dec.{eqb}
use lib.ListN.{length, get_or, take, drop, set, length-append, length-map, length-set}
use lib.Seq.{append_snoc, set_at, take_at, drop_at}
use Rattle.signature.specs.Lists.{All, none_left, also}
use Rattle.signature.specs.Read.{read_booking}
use Rattle.signature.specs.Signature.{Signature}
use Rattle.signature.proofs.Tests.{eqb_no}
use Rattle.tree.specs.Answer.{Answer}
use Rattle.tree.specs.RunCall.{run_booking}
use Rattle.charges.specs.Charge.{Charge, record_words, list_words, Recordable, ChargeWords}
use Rattle.charges.specs.Limits.{charge_limit, record_length, booking_at, booking_room}
use Rattle.charges.specs.Replan.{new_answer, first_refused, answered}
use Rattle.charges.proofs.Words.{length_word, booking_words, behind_record, whole_record, record_long}
use Rattle.replanning.specs.Parts.{answer_words, answers_room, Answers}

-- two words that follow on each other are written behind p
pub pair_set : (p : List ℕ) (x y : ℕ) (ws : List ℕ) (a b n : ℕ) → length p ≡ n → set (set (p ++ (x ∷ (y ∷ ws))) n a) (n + 1) b ≡ p ++ (a ∷ (b ∷ ws))
pair_set p x y ws a b n e =
    ap (λ l. set l (n + 1) b) (set_at p x (y ∷ ws) a n e ∙ sym (append_snoc p a (y ∷ ws)))
    ∙ set_at (p ++ (a ∷ [])) y ws b (n + 1) (omega (arith, length-append p (a ∷ [])))
    ∙ append_snoc p a (b ∷ ws)

pub answers_behind : (cs ds : List Charge) (ws : List ℕ) → answer_words (cs ++ ds) ++ ws ≡ answer_words cs ++ (answer_words ds ++ ws)
answers_behind [] ds ws = refl
answers_behind (c ∷ cs) ds ws = ap (λ l. c.rule ∷ (c.plan ∷ l)) (answers_behind cs ds ws)

pub answers_length : (cs : List Charge) → length (answer_words cs) ≡ 2 * length cs
answers_length [] = refl
answers_length (c ∷ cs) = omega (arith, answers_length cs)

two_words : (ws : List ℕ) → 2 ≤ length ws → (x : ℕ) × (y : ℕ) × (us : List ℕ) × (ws ≡ x ∷ (y ∷ us))
two_words [] l = absurd (omega arith)
two_words (x ∷ []) l = absurd (omega arith)
two_words (x ∷ (y ∷ us)) l = (x, y, us, refl)

-- a list of open charges that is not at its end
pub record First (left : List ℕ) (cs : List Charge) : Type 0 where
  pub charge : Charge
  pub later : List Charge
  pub are : cs ≡ charge ∷ later
  pub recordable : Recordable charge
  pub later_recordable : All Recordable later
  pub words_are : left ≡ record_words charge ++ list_words later

pub first_of : (left : List ℕ) {cs : List Charge} → All Recordable cs → left ≡ list_words cs → 0 < length left → First left cs
first_of left none_left e l = absurd (omega (arith, ap length e))
first_of left (also c {xs = cs} r rs) e l = record { charge = c; later = cs; are = refl; recordable = r; later_recordable = rs; words_are = e }

pub at_end : (left : List ℕ) {cs : List Charge} → All Recordable cs → left ≡ list_words cs → length left ≤ 0 → cs ≡ []
at_end left none_left e l = refl
at_end left (also c {xs = cs} r rs) e l = absurd (omega (arith, whole_record c r left (list_words cs) e))

module _ (sig : Signature) (tree : List ℕ) where
  mapped_more : (cs : List Charge) (c : Charge) → map (answered sig tree) (cs ++ (c ∷ [])) ≡ map (answered sig tree) cs ++ (answered sig tree c ∷ [])
  mapped_more [] c = refl
  mapped_more (d ∷ cs) c = ap (λ l. answered sig tree d ∷ l) (mapped_more cs c)

  -- so far none of n records is refused, and what was found stands in front
  pub record Going (cs : List Charge) (left : List ℕ) (n : ℕ) (found : List ℕ) : Type 0 where
    pub done : List Charge
    pub todo : List Charge
    pub parts : cs ≡ done ++ todo
    pub few : length cs ≤ charge_limit
    pub recordable : All Recordable todo
    pub left_is : left ≡ list_words todo
    pub at_is : n ≡ length done
    pub room : length found ≡ answers_room
    pub so_far : Answers (map (answered sig tree) done) found
    pub not_refused : first_refused sig tree cs ≡ first_refused sig tree todo

  pub going_start : (cs : List Charge) (ws found : List ℕ) → ChargeWords ws cs → length found ≡ answers_room → Going cs ws 0 found
  going_start cs ws found h room = record { done = []; todo = cs; parts = refl; few = h.few; recordable = h.recordable; left_is = h.words_are; at_is = refl; room = room; so_far = record { behind = found; words_are = refl }; not_refused = refl }

  module _ {cs : List Charge} {left : List ℕ} {n : ℕ} {found : List ℕ} (g : Going cs left n found) where
    pub all_found : length left ≤ 0 → (0 ≡ first_refused sig tree cs) × Answers (map (answered sig tree) cs) found
    all_found l =
        let e : g.todo ≡ [] = at_end left g.recordable g.left_is l in
        let f : g.done ≡ cs = sym (g.parts ∙ ap (λ x. g.done ++ x) e ∙ append-nil g.done) in
        (sym (g.not_refused ∙ ap (first_refused sig tree) e), subst (λ x. Answers (map (answered sig tree) x) found) f g.so_far)

    -- the first record of what is left, and what stands behind it
    module _ (more : 0 < length left) (first rest : List ℕ) (cut : left ≡ first ++ rest) (long : length first ≡ min record_length (length left)) where
      abbrev here : First left g.todo
      here = first_of left g.recordable g.left_is more

      pub whole : length first ≡ record_length
      whole = omega (arith, long, whole_record here.charge here.recordable left (list_words here.later) here.words_are)

      first_is : first ≡ record_words here.charge ++ []
      first_is = sym (take_at first rest record_length whole) ∙ ap (take record_length) (sym cut ∙ here.words_are) ∙ take_at (record_words here.charge) (list_words here.later) record_length (record_long here.charge here.recordable) ∙ sym (append-nil (record_words here.charge))

      rest_is : rest ≡ list_words here.later
      rest_is = sym (drop_at first rest record_length whole) ∙ ap (drop record_length) (sym cut) ∙ behind_record here.charge here.recordable left (list_words here.later) here.words_are

      words_is : get_or first 2 0 ≡ length here.charge.booking
      words_is = length_word here.charge here.recordable first [] first_is

      pub short : get_or first 2 0 ≤ booking_room
      short = omega (arith, words_is, here.recordable.1)

      pub at_room : 2 * n + 2 ≤ answers_room
      at_room = omega (arith, g.at_is, g.few, ap length g.parts, length-append g.done g.todo, ap length here.are)

      booking_is : take (booking_at + get_or first 2 0 - booking_at) (drop booking_at first) ≡ here.charge.booking
      booking_is =
          let z : booking_at + get_or first 2 0 - booking_at ≡ length here.charge.booking = omega (arith, words_is) in
          ap (λ m. take m (drop booking_at first)) z ∙ booking_words here.charge here.recordable first [] first_is

      pub few_words : length (take (booking_at + get_or first 2 0 - booking_at) (drop booking_at first)) ≤ booking_room
      few_words = omega (arith, ap length booking_is, here.recordable.1)

      module _ (number : ℕ) (a : Answer) (ran : (number, a) ≡ run_booking sig tree (read_booking sig (take (booking_at + get_or first 2 0 - booking_at) (drop booking_at first)))) where
        answer_is : (number, a) ≡ new_answer sig tree here.charge
        answer_is = ran ∙ ap (λ b. run_booking sig tree (read_booking sig b)) booking_is

        first_here : first_refused sig tree cs ≡ cond (eqb number 0) (first_refused sig tree here.later) number
        first_here = g.not_refused ∙ ap (first_refused sig tree) here.are ∙ ap (λ r. cond (eqb r.0 0) (first_refused sig tree here.later) r.0) (sym answer_is)

        pub refused_here : (number ≡ 0 → ⊥) → (number ≡ first_refused sig tree cs) × (number ≡ 0 → Answers (map (answered sig tree) cs) found)
        refused_here l = (sym (first_here ∙ rw (eqb_no number 0 l)), λ e. absurd (l e))

        pub going_next : number ≡ 0 → Going cs rest (n + 1) (set (set found (2 * n) a.rule) (2 * n + 1) a.plan)
        going_next l =
            let c : Charge = here.charge in
            let new : List Charge = map (answered sig tree) g.done in
            let i_is : length (answer_words new) ≡ 2 * n = omega (arith, answers_length new, length-map g.done (answered sig tree), g.at_is) in
            let (x, y, us, e) = two_words g.so_far.behind (omega (arith, at_room, g.room, ap length g.so_far.words_are, length-append (answer_words new) g.so_far.behind)) in
            let put : set (set found (2 * n) a.rule) (2 * n + 1) a.plan ≡ answer_words new ++ (a.rule ∷ (a.plan ∷ us)) = ap (λ ws. set (set ws (2 * n) a.rule) (2 * n + 1) a.plan) (g.so_far.words_are ∙ ap (λ ws. answer_words new ++ ws) e) ∙ pair_set (answer_words new) x y us a.rule a.plan (2 * n) i_is in
            record {
              done = g.done ++ (c ∷ []);
              todo = here.later;
              parts = g.parts ∙ ap (λ x. g.done ++ x) here.are ∙ sym (append_snoc g.done c here.later);
              few = g.few;
              recordable = here.later_recordable;
              left_is = rest_is;
              at_is = omega (arith, g.at_is, length-append g.done (c ∷ []));
              room = simp length-set g.room;
              so_far = record {
                behind = us;
                words_are = put ∙ ap₂ (λ r p. answer_words new ++ (r ∷ (p ∷ us))) (ap (λ z. z.1.rule) answer_is) (ap (λ z. z.1.plan) answer_is) ∙ sym (answers_behind new (answered sig tree c ∷ []) us) ∙ ap (λ ds. answer_words ds ++ us) (sym (mapped_more g.done c));
              };
              not_refused = first_here ∙ rw l;
            }
