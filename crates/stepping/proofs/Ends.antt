-- The steps over the words end in the number of the check.
use mathlib.Core.Path.{◌≡◌, refl, sym, ap, subst, ◌∙◌}
use mathlib.Core.List.{List, [], ◌∷◌}
use mathlib.Core.Option.{Option, some, none}
use mathlib.Core.Bool.{Bool, true, false, cond, ◌&&◌}
use Prim.Native.Nat.{ℕ, zero, suc, ◌+◌, ◌-◌, ◌≤◌, ◌<◌}
use native.Mathlib.Decide.{dec_le}
use native.Mathlib.Omega.{arith}
use lib.Dec.{leb, eqb}
use lib.ListN.{length, drop, set, drop_of_length-le}
use lib.Seq.{get_or-set_same}
use Rattle.signature.specs.Limits.{booking_limit}
use Rattle.signature.specs.Lists.{require, is_some, is_empty}
use Rattle.signature.specs.Part.{part_call, part_booking}
use Rattle.signature.specs.Read.{count_kinds, read_signature, read_booking}
use Rattle.signature.specs.Signature.{Signature}
use Rattle.signature.specs.Value.{Value}
use Rattle.booking.specs.Walk.{View, open_limit, walk_word, walk, first_due, ended, due_in, due_after, next, step_by, Nested}
use Rattle.stepping.specs.State.{number_at, read_at, open_at, state_words, signature_limit, number_in, read_in, opened_in, open_in, begun, begin_state, state_view, step_in, moved, steps, refusal_in, end_number}
use Rattle.signature.proofs.Booleans.{and_false, and_left}
use Rattle.signature.proofs.SignatureBack.{signature_is, is_kinds}
use Rattle.signature.proofs.Tests.{bind_some, require_some, eqb_no, leb_yes, leb_no, ltb_yes, ltb_no, le_of}
use Rattle.signature.proofs.Values.{booking_lawful}
use Rattle.booking.proofs.StepLaws.{has_room}
use Rattle.booking.proofs.Steps.{Sees, step_walks, step_kept, ended_open}
use Rattle.booking.proofs.WalkLaws.{walk_lawful, too_long}
use Rattle.stepping.proofs.Front.{step_fits, moved_long, moved_number, moved_head, moved_row, moved_read, moved_opened, moved_open}
use Rattle.stepping.proofs.Shown.{Shows, begun_is, begun_shows, words_fit, seen}

-- a state that tells a refusal takes no step
stuck : (ss st ws : List ℕ) → (number_in st ≡ 0 → ⊥) → steps ss st ws ≡ st
stuck ss st [] h = refl
stuck ss st (w ∷ ws) h = rw (eqb_no (number_in st) 0 h) (stuck ss st ws h)

-- it ends in that refusal
pub stays : (ss st ws : List ℕ) → (refusal_in st ≡ 0 → ⊥) → (refusal_in (steps ss st ws) ≡ refusal_in st) × (end_number (steps ss st ws) ≡ refusal_in st)
stays ss st ws h =
    let n : number_in st ≡ 0 → ⊥ = λ e. h (rw e) in
    rw (stuck ss st ws n, eqb_no (number_in st) 0 n) (refl, refl)

-- a word that may not stand there
wrong : (ss st ws : List ℕ) (w : ℕ) → length st ≡ state_words → number_in st ≡ 0 → step_in ss st w ≡ none → end_number (steps ss st (w ∷ ws)) ≡ 13
wrong ss st ws w l z e =
    let q : number_in (set st number_at 13) ≡ 13 = get_or-set_same st number_at 13 0 (omega arith) in
    let r : refusal_in (set st number_at 13) ≡ 13 = rw q in
    rw (z, e) ((stays ss (set st number_at 13) ws (λ p. omega arith)).1 ∙ r)

-- where no value more fits, none is due that may be opened
no_room : (v : View) (n i w : ℕ) (os : List ℕ) → (i ≡ 0 → os ≡ []) → Nested v.rows n os → open_limit < length os + 2 → step_by v i os w ≡ none
no_room v n i w os f a l = go (step_by v i os w) refl
  where
    full : (x : ℕ × ℕ) → next v.rows i os ≡ some x → (x.1 ≡ 0 → ⊥) → Dec (i ≤ 0) → ⊥
    full x p z (yes m) = let y : length os ≡ 0 = ap length (f (omega arith)) in omega arith
    full x p z (no m) = omega (arith, has_room v.rows os n i x.0 x.1 (omega arith) z a p)

    go : (o : Option (List ℕ)) → step_by v i os w ≡ o → step_by v i os w ≡ none
    go none q = q
    go (some qs) q =
        let (x, p, r) = bind_some (next v.rows i os) _ qs q in
        let (u, c, d) = bind_some (require (leb 1 x.1 && v.head x.0 w)) _ qs r in
        let m : 1 ≤ x.1 = le_of 1 x.1 (and_left (leb 1 x.1) (v.head x.0 w) (require_some _ u c)) in
        absurd (full x p (λ z. omega arith) (dec_le i 0))

-- the number by whether the words are lawful
abbrev number_by : Bool → ℕ
number_by true = 0
number_by false = 13

module _ (ss : List ℕ) (sig : Signature) (e : read_signature ss ≡ some sig) (n : ℕ) (kinds_are : count_kinds sig ≡ some n) where
  -- a state after i words of which none was wrong
  record Going (st : List ℕ) (i : ℕ) : Type 0 where
    shows : Shows sig st
    right : number_in st ≡ 0
    read : read_in st ≡ i
    few : i ≤ booking_limit
    counted : opened_in st ≡ length (open_in st)
    nested : Nested ss n (open_in st)
    fresh : i ≡ 0 → open_in st ≡ []

  -- before the first word
  going_first : Going (begun (some sig)) 0
  going_first =
      let s = begun_shows sig in
      let c : opened_in (begun (some sig)) ≡ 0 = begun_is sig open_at (omega arith) in
      let o : open_in (begun (some sig)) ≡ [] = ap (λ m. drop (state_words - m) (begun (some sig))) c ∙ drop_of_length-le (begun (some sig)) {i = state_words} (omega (arith, s.long)) in
      record {
        shows = s;
        right = begun_is sig number_at (omega arith);
        read = begun_is sig read_at (omega arith);
        few = omega arith;
        counted = c ∙ sym (ap length o);
        nested = subst (Nested ss n) (sym o) tt;
        fresh = λ z. o;
      }

  module _ (st : List ℕ) (i : ℕ) (g : Going st i) where
    -- the state shows the signature
    view : Sees sig n (state_view ss st)
    view = seen ss sig e n kinds_are st g.shows

    -- a step is the walk's step, for a value that has no room may not stand there either
    step_is : (w : ℕ) → i < booking_limit → step_in ss st w ≡ step_by (state_view ss st) i (open_in st) w
    step_is w l = go (dec_le (opened_in st + 2) open_limit)
      where
        go : Dec (opened_in st + 2 ≤ open_limit) → step_in ss st w ≡ step_by (state_view ss st) i (open_in st) w
        go (yes m) = rw (leb_yes (length ss) signature_limit (words_fit ss sig e), g.read, ltb_yes i booking_limit l, leb_yes (opened_in st + 2) open_limit m)
        go (no m) = rw (leb_yes (length ss) signature_limit (words_fit ss sig e), g.read, ltb_yes i booking_limit l, leb_no (opened_in st + 2) open_limit (omega arith)) (sym (no_room (state_view ss st) n i w (open_in st) g.fresh g.nested (omega (arith, g.counted))))

    -- there is no word behind the last
    step_last : (w : ℕ) → booking_limit ≤ i → step_in ss st w ≡ none
    step_last w l = rw (leb_yes (length ss) signature_limit (words_fit ss sig e), g.read, ltb_no i booking_limit l)

    -- the state after a word that may stand there
    going_next : (w : ℕ) (qs : List ℕ) → i < booking_limit → step_by (state_view ss st) i (open_in st) w ≡ some qs → Going (moved st (some qs)) (suc i)
    going_next w qs l f =
        let h = g.shows in
        let m : length qs ≤ open_limit = step_fits ss st qs w h.long (step_is w l ∙ f) in
        let o : open_in (moved st (some qs)) ≡ qs = moved_open st qs h.long m in
        record {
          shows = record {
            long = moved_long st qs h.long m;
            head_words = λ j b. moved_head st qs h.long m j b ∙ h.head_words j b;
            row_words = λ c b. moved_row st qs h.long m c b ∙ h.row_words c b;
          };
          right = moved_number st qs h.long m ∙ g.right;
          read = moved_read st qs h.long m ∙ ap suc g.read;
          few = l;
          counted = moved_opened st qs h.long m ∙ sym (ap length o);
          nested = subst (Nested ss n) (sym o) (step_kept sig n (state_view ss st) view i w (open_in st) qs g.nested f);
          fresh = λ z. absurd (omega arith);
        }

    -- behind the last word
    ends_here : end_number st ≡ number_by (leb (i + 0) booking_limit && ended (some (due_after ss i (open_in st))))
    ends_here = rw (g.right, g.read, leb_yes (i + 0) booking_limit (omega (arith, g.few))) (go i)
      where
        empty : (os : List ℕ) → cond (eqb (length os) 0) 0 13 ≡ number_by (is_empty os)
        empty [] = refl
        empty (x ∷ xs) = rw (eqb_no (suc (length xs)) 0 (λ p. omega arith))

        go : (j : ℕ) → cond (eqb j 0) 13 (cond (eqb (opened_in st) 0) 0 13) ≡ number_by (ended (some (due_after ss j (open_in st))))
        go zero = refl
        go (suc j) = rw (eqb_no (suc j) 0 (λ p. omega arith), ended_open ss n (open_in st) g.nested) (ap (λ x. cond (eqb x 0) 0 13) g.counted ∙ empty (open_in st))

  -- the steps over the words from here on are their walk, where there are not too many
  abbrev Ends : List ℕ → List ℕ → ℕ → Type 0
  Ends ws st i = end_number (steps ss st ws) ≡ number_by (leb (i + length ws) booking_limit && ended (walk sig (due_after ss i (open_in st)) ws))

  -- from any state on
  ends_from : (ws st : List ℕ) (i : ℕ) → Going st i → Ends ws st i
  ends_from [] st i g = ends_here st i g
  ends_from (w ∷ ws) st i g = go (dec_le booking_limit i) (ends_from ws)
    where
      step : (o : Option (List ℕ)) → i < booking_limit → step_by (state_view ss st) i (open_in st) w ≡ o → ((u : List ℕ) (j : ℕ) → Going u j → Ends ws u j) → Ends (w ∷ ws) st i
      step none l q f =
          let h : walk_word sig (due_after ss i (open_in st)) w ≡ none = step_walks sig n (state_view ss st) (view st i g) i w (open_in st) g.nested ∙ (rw q) in
          wrong ss st ws w g.shows.long g.right (step_is st i g w l ∙ q) ∙ rw (h, and_false (leb (i + length (w ∷ ws)) booking_limit))
      step (some qs) l q f =
          let h : walk_word sig (due_after ss i (open_in st)) w ≡ some (due_in ss qs) = step_walks sig n (state_view ss st) (view st i g) i w (open_in st) g.nested ∙ (rw q) in
          let a : i + length (w ∷ ws) ≡ suc i + length ws = omega arith in
          let o : open_in (moved st (some qs)) ≡ qs = moved_open st qs g.shows.long (step_fits ss st qs w g.shows.long (step_is st i g w l ∙ q)) in
          rw (g.right, step_is st i g w l, q, h, a) (f (moved st (some qs)) (suc i) (going_next st i g w qs l q) ∙ ap (λ os. number_by (leb (suc i + length ws) booking_limit && ended (walk sig (due_in ss os) ws))) o)

      go : Dec (booking_limit ≤ i) → ((u : List ℕ) (j : ℕ) → Going u j → Ends ws u j) → Ends (w ∷ ws) st i
      go (yes l) f = wrong ss st ws w g.shows.long g.right (step_last st i g w l) ∙ rw (leb_no (i + length (w ∷ ws)) booking_limit (omega arith))
      go (no l) f = step (step_by (state_view ss st) i (open_in st) w) (omega arith) refl f

  -- all the words
  ends_lawful : (ws : List ℕ) → end_number (steps ss (begun (some sig)) ws) ≡ number_by (is_some (read_booking sig ws))
  ends_lawful ws = ends_from ws (begun (some sig)) 0 going_first ∙ ap number_by (go (dec_le (length ws) booking_limit))
    where
      go : Dec (length ws ≤ booking_limit) → (leb (0 + length ws) booking_limit && ended (walk sig first_due ws)) ≡ is_some (read_booking sig ws)
      go (yes l) = rw (leb_yes (0 + length ws) booking_limit (omega arith)) (walk_lawful sig ws l)
      go (no l) = rw (leb_no (0 + length ws) booking_limit (omega arith)) (too_long sig ws (omega arith))

-- a lawful booking has words, so that it has a part at place 0
part_number : (sig : Signature) (ws : List ℕ) → number_by (is_some (read_booking sig ws)) ≡ (part_booking ws 0 (read_booking sig ws)).0
part_number sig ws = go (read_booking sig ws) refl
  where
    go : (o : Option Value) → read_booking sig ws ≡ o → number_by (is_some o) ≡ (part_booking ws 0 o).0
    go none q = refl
    go (some v) q = rw (ltb_yes 0 (length ws) (booking_lawful sig ws v q).some_words)

-- "Stepped once through any slice, it ends in the number that the check gives today"
pub ends : (ss ws : List ℕ) → end_number (steps ss (begin_state ss) ws) ≡ (part_call ss ws 0).0
ends ss ws = go (read_signature ss) refl
  where
    go : (o : Option Signature) → read_signature ss ≡ o → end_number (steps ss (begin_state ss) ws) ≡ (part_call ss ws 0).0
    go none q = rw q (stays ss (begun none) ws (λ p. omega arith)).1
    go (some sig) q = let h = signature_is ss sig q in rw q (ends_lawful ss sig q h.n (is_kinds h.rises) ws ∙ part_number sig ws)
