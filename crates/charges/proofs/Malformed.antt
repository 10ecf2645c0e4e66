-- A list is read or malformed, never both.
use mathlib.Core.Path.{◌≡◌, refl, ap, sym, subst, ◌∙◌}
use mathlib.Core.Logic.{◌⊎◌, inl, inr, ◌↔◌}
use mathlib.Core.List.{List, [], ◌∷◌}
use mathlib.Core.Option.{Option, none, some}
use mathlib.Core.Bool.{Bool, true, false}
use Prim.Native.Nat.{ℕ, zero, suc, ◌+◌, ◌*◌, ◌-◌, ◌≤◌, ◌<◌}
use native.Mathlib.Omega.{arith}
use lib.Dec.{eqb, leb}
use lib.ListN.{length, replicate, get_or, take, drop, length-drop, get_or-replicate}
use lib.Seq.{get_or-append-add, get_or-take, get_or-drop, drop-drop, length-take-le}
use Rattle.signature.specs.Lists.{all, is_empty, All, none_left, also}
use Rattle.signature.proofs.Tests.{none≢some, true≢false, eqb_ne, le_of, lt_of_not}
use Rattle.charges.specs.Charge.{Charge, record_words, list_words, Recordable, ChargeWords, read_record, read_records, read_charges, word_of, Whole, MalformedList, over_48, part_of_a_record, length_outside, not_zero_behind}
use Rattle.charges.specs.Limits.{charge_limit, record_length, booking_at, booking_room}
use Rattle.charges.proofs.Words.{word_first, word_later, list_long, read_words}

-- behind the booking of a record
zero_behind : (c : Charge) (j : ℕ) → Recordable c → booking_at + length c.booking ≤ j → j < record_length → get_or (record_words c) j 0 ≡ 0
zero_behind c j (some_words, room) h l =
    let front : List ℕ = c.rule ∷ (c.plan ∷ (length c.booking ∷ c.booking)) in
    let i : ℕ = j - (booking_at + length c.booking) in
    ap (λ m. get_or (record_words c) m 0) {x = j} {y = length front + i} (omega arith) ∙ get_or-append-add front (replicate (booking_room - length c.booking) 0) i 0 ∙ get_or-replicate (booking_room - length c.booking) i 0 0 (omega arith)

-- record k of a list is one of its charges
record_at : {cs : List Charge} → All Recordable cs → (k : ℕ) → k < length cs → (c : Charge) × Recordable c × ((j : ℕ) → j < record_length → word_of (list_words cs) k j ≡ get_or (record_words c) j 0)
record_at none_left k l = absurd (omega arith)
record_at (also c {xs = cs} r rs) zero l = (c, r, word_first c r (list_words cs))
record_at (also c {xs = cs} r rs) (suc k) l =
    let (d, s, f) = record_at rs k (omega arith) in
    (d, s, λ j h. word_later c r (list_words cs) k j ∙ f j h)

-- the words of open charges are not malformed
module _ {cs : List Charge} (few : length cs ≤ charge_limit) (rs : All Recordable cs) where
  well_formed : MalformedList (list_words cs) → ⊥
  well_formed (over_48 l) = omega (arith, list_long rs)
  well_formed (part_of_a_record k l m) = omega (arith, list_long rs)
  well_formed (length_outside k w o) =
      let (c, r, f) = record_at rs k (omega (arith, list_long rs)) in
      outside c r (f 2 (omega arith)) o
    where
      outside : (c : Charge) → Recordable c → word_of (list_words cs) k 2 ≡ length c.booking → (word_of (list_words cs) k 2 < 1) ⊎ (booking_room < word_of (list_words cs) k 2) → ⊥
      outside c (some_words, room) e (inl l) = omega arith
      outside c (some_words, room) e (inr l) = omega arith
  well_formed (not_zero_behind k j w h l ne) =
      let (c, r, f) = record_at rs k (omega (arith, list_long rs)) in
      ne (f j l ∙ zero_behind c j r (omega (arith, f 2 (omega arith))) l)

-- a word that is not 0
not_zero : (ws : List ℕ) → all (λ w. eqb w 0) ws ≡ false → (i : ℕ) × (i < length ws) × (get_or ws i 0 ≡ 0 → ⊥)
not_zero [] e = true≢false e
not_zero (w ∷ ws) e = go (eqb w 0) refl (not_zero ws)
  where
    go : (b : Bool) → eqb w 0 ≡ b → (all (λ x. eqb x 0) ws ≡ false → (i : ℕ) × (i < length ws) × (get_or ws i 0 ≡ 0 → ⊥)) → (i : ℕ) × (i < suc (length ws)) × (get_or (w ∷ ws) i 0 ≡ 0 → ⊥)
    go true q f = let (i, l, h) = f (rw q at e) in (suc i, omega arith, h)
    go false q f = (0, omega arith, eqb_ne w 0 q)

-- the words from record k on
abbrev left_at : List ℕ → ℕ → List ℕ
left_at ws k = drop (record_length * k) ws

-- record k is there, and is not read
module _ (ws : List ℕ) (k : ℕ) (whole : Whole ws k) where
  abbrev its_words : List ℕ
  its_words = take record_length (left_at ws k)

  abbrev its_length : ℕ
  its_length = get_or its_words 2 0

  word_is : (j : ℕ) → j < record_length → get_or its_words j 0 ≡ word_of ws k j
  word_is j l = get_or-take record_length (left_at ws k) j 0 l ∙ get_or-drop (record_length * k) ws j 0

  its_long : length its_words ≡ record_length
  its_long = length-take-le record_length (left_at ws k) (omega (arith, length-drop (record_length * k) ws))

  wrong_word : all (λ w. eqb w 0) (drop (booking_at + its_length) its_words) ≡ false → MalformedList ws
  wrong_word e =
      let (i, l, h) = not_zero (drop (booking_at + its_length) its_words) e in
      let j : ℕ = booking_at + its_length + i in
      let m : j < record_length = omega (arith, length-drop (booking_at + its_length) its_words, its_long) in
      not_zero_behind k j whole (omega (arith, word_is 2 (omega arith))) m (λ z. h (get_or-drop (booking_at + its_length) its_words i 0 ∙ word_is j m ∙ z))

  wrong_record : read_record its_words ≡ none → MalformedList ws
  wrong_record e = go (leb 1 its_length) (leb its_length booking_room) (all (λ w. eqb w 0) (drop (booking_at + its_length) its_words)) refl refl refl
    where
      go : (a b c : Bool) → leb 1 its_length ≡ a → leb its_length booking_room ≡ b → all (λ w. eqb w 0) (drop (booking_at + its_length) its_words) ≡ c → MalformedList ws
      go false b c p q r = length_outside k whole (inl (omega (arith, lt_of_not 1 its_length p, word_is 2 (omega arith))))
      go true false c p q r = length_outside k whole (inr (omega (arith, lt_of_not its_length booking_room q, word_is 2 (omega arith))))
      go true true false p q r = wrong_word r
      go true true true p q r = none≢some (sym (rw (p, q, r) at e))

some_left : (ws : List ℕ) → is_empty ws ≡ false → 0 < length ws
some_left [] e = true≢false e
some_left (w ∷ ws) e = omega arith

-- the first k records are passed, and n more are allowed
from_record : (ws : List ℕ) (n k : ℕ) → n + k ≡ charge_limit → read_records n (left_at ws k) ≡ none → MalformedList ws
from_record ws zero k s e = go (is_empty (left_at ws k)) refl
  where
    go : (b : Bool) → is_empty (left_at ws k) ≡ b → MalformedList ws
    go true q = none≢some (sym (rw q at e))
    go false q = over_48 (omega (arith, some_left (left_at ws k) q, length-drop (record_length * k) ws))
from_record ws (suc n) k s e = go (is_empty (left_at ws k)) (leb record_length (length (left_at ws k))) refl refl (from_record ws n (suc k) (omega arith))
  where
    go : (a b : Bool) → is_empty (left_at ws k) ≡ a → leb record_length (length (left_at ws k)) ≡ b → (read_records n (left_at ws (suc k)) ≡ none → MalformedList ws) → MalformedList ws
    go true b p q f = none≢some (sym (rw p at e))
    go false false p q f = part_of_a_record k (omega (arith, some_left (left_at ws k) p, length-drop (record_length * k) ws)) (omega (arith, lt_of_not record_length (length (left_at ws k)) q, length-drop (record_length * k) ws))
    go false true p q f = on (read_record (take record_length (left_at ws k))) (read_records n (drop record_length (left_at ws k))) refl refl
      where
        on : (o : Option Charge) (os : Option (List Charge)) → read_record (take record_length (left_at ws k)) ≡ o → read_records n (drop record_length (left_at ws k)) ≡ os → MalformedList ws
        on none os g h = wrong_record ws k (omega (arith, le_of record_length (length (left_at ws k)) q, length-drop (record_length * k) ws)) g
        on (some c) none g h = f (ap (λ i. read_records n (drop i ws)) {x = record_length * suc k} {y = record_length * k + record_length} (omega arith) ∙ ap (read_records n) (sym (drop-drop record_length (record_length * k) ws)) ∙ h)
        on (some c) (some cs) g h = none≢some (sym (rw (p, q, g, h) at e))

pub malformed : (ws : List ℕ) → (read_charges ws ≡ none) ↔ (MalformedList ws)
unfolding read_charges
malformed ws = (there, back (read_charges ws) refl)
  where
    there : read_charges ws ≡ none → MalformedList ws
    there e = from_record ws charge_limit 0 refl e

    back : (o : Option (List Charge)) → read_charges ws ≡ o → MalformedList ws → read_charges ws ≡ none
    back none e m = e
    back (some cs) e m = let h : ChargeWords ws cs = read_words ws cs e in absurd (well_formed h.few h.recordable (subst MalformedList h.words_are m))
