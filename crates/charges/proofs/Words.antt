-- Exactly the lists of open charges are read; where the words of a record stand.
use mathlib.Core.Path.{◌≡◌, refl, ap, ap₂, sym, subst, ◌∙◌}
use mathlib.Core.List.{List, [], ◌∷◌, ◌++◌, append_assoc}
use mathlib.Core.Option.{some}
use mathlib.Core.Bool.{true, false, ◌&&◌}
use Prim.Native.Nat.{ℕ, zero, suc, ◌+◌, ◌*◌, ◌-◌, ◌≤◌, ◌<◌}
use native.Mathlib.Omega.{arith}
use lib.Dec.{eqb, leb}
use lib.ListN.{length, replicate, get_or, take, drop, length-append, length-replicate, length-drop, take-append-drop, get_or-append}
use lib.Seq.{take-append_seam, drop-append_seam, drop-append-add, get_or-append-add, take_at, drop_at, length-take-le}
use Rattle.signature.specs.Lists.{require, all, is_empty, All, none_left, also}
use Rattle.signature.proofs.Booleans.{and_left, and_right}
use Rattle.signature.proofs.ListFacts.{zeros, zeros_were}
use Rattle.signature.proofs.Tests.{none≢some, some_inj, bind_some, require_some, leb_yes, le_of}
use Rattle.charges.specs.Charge.{Charge, record_words, list_words, Recordable, ChargeWords, read_record, read_records, read_charges, word_of}
use Rattle.charges.specs.Limits.{charge_limit, record_length, booking_at, booking_room}

-- the zeros of a record
abbrev behind : Charge → List ℕ
behind c = replicate (booking_room - length c.booking) 0

pub record_long : (c : Charge) → Recordable c → length (record_words c) ≡ record_length
record_long c (some_words, room) = omega (arith, length-append c.booking (behind c), length-replicate {A = ℕ} (booking_room - length c.booking) 0)

-- the words that begin with a record
module _ (c : Charge) (r : Recordable c) (left rest : List ℕ) (e : left ≡ record_words c ++ rest) where
  pub length_word : get_or left 2 0 ≡ length c.booking
  length_word = ap (λ ws. get_or ws 2 0) e

  pub booking_words : take (length c.booking) (drop booking_at left) ≡ c.booking
  booking_words = ap (λ ws. take (length c.booking) (drop booking_at ws)) e ∙ ap (take (length c.booking)) (append_assoc c.booking (behind c) rest) ∙ take-append_seam c.booking (behind c ++ rest)

  pub behind_record : drop record_length left ≡ rest
  behind_record = ap (drop record_length) e ∙ drop_at (record_words c) rest record_length (record_long c r)

  pub whole_record : record_length ≤ length left
  whole_record = omega (arith, ap length e, length-append (record_words c) rest, record_long c r)

-- the words of a list by their records
module _ (c : Charge) (r : Recordable c) (rest : List ℕ) where
  pub word_first : (j : ℕ) → j < record_length → word_of (record_words c ++ rest) 0 j ≡ get_or (record_words c) j 0
  word_first j l = ap (λ i. get_or (record_words c ++ rest) i 0) {x = 0 + j} {y = j} (omega arith) ∙ get_or-append (record_words c) rest 0 j (omega (arith, record_long c r))

  pub word_later : (k j : ℕ) → word_of (record_words c ++ rest) (suc k) j ≡ word_of rest k j
  word_later k j = ap (λ i. get_or (record_words c ++ rest) i 0) {x = record_length * suc k + j} {y = length (record_words c) + (record_length * k + j)} (omega (arith, record_long c r)) ∙ get_or-append-add (record_words c) rest (record_length * k + j) 0

pub list_long : {cs : List Charge} → All Recordable cs → length (list_words cs) ≡ record_length * length cs
list_long none_left = refl
list_long (also c {xs = cs} r rs) = omega (arith, length-append (record_words c) (list_words cs), record_long c r, list_long rs)

-- three words are left out
behind_three : (x y z m : ℕ) (ws : List ℕ) → drop (booking_at + m) (x ∷ (y ∷ (z ∷ ws))) ≡ drop m ws
behind_three x y z m ws = drop-append-add (x ∷ (y ∷ (z ∷ []))) ws m

-- a record is read as its charge
record_read : (c : Charge) → Recordable c → read_record (record_words c) ≡ some c
record_read c (some_words, room) =
    rw (leb_yes 1 (length c.booking) some_words, leb_yes (length c.booking) booking_room room, behind_three c.rule c.plan (length c.booking) (length c.booking) (c.booking ++ behind c), drop-append_seam c.booking (behind c), zeros (booking_room - length c.booking), take-append_seam c.booking (behind c))

-- and what was read was there
as_charge : (x y n : ℕ) (ws : List ℕ) → length ws ≡ booking_room → 1 ≤ n → n ≤ booking_room → drop n ws ≡ replicate (length (drop n ws)) 0 → let c : Charge = record { rule = x; plan = y; booking = take n ws } in Recordable c × (x ∷ (y ∷ (n ∷ ws)) ≡ record_words c)
as_charge x y n ws l some_words room z =
    let m : length (take n ws) ≡ n = length-take-le n ws (omega arith) in
    let k : length (drop n ws) ≡ booking_room - length (take n ws) = omega (arith, length-drop n ws) in
    ((omega arith, omega arith), ap₂ (λ h t. x ∷ (y ∷ (h ∷ t))) (sym m) (sym (take-append-drop n ws) ∙ ap (λ t. take n ws ++ t) (z ∙ ap (λ j. replicate j 0) k)))

record_was : (ws : List ℕ) (c : Charge) → length ws ≡ record_length → read_record ws ≡ some c → Recordable c × (ws ≡ record_words c)
record_was [] c l e = absurd (omega arith)
record_was (x ∷ []) c l e = absurd (omega arith)
record_was (x ∷ (y ∷ [])) c l e = absurd (omega arith)
record_was (x ∷ (y ∷ (n ∷ ws))) c l e =
    let us : List ℕ = x ∷ (y ∷ (n ∷ ws)) in
    let (u, e₁, e₂) = bind_some (require (leb 1 n && (leb n booking_room && all (λ w. eqb w 0) (drop (booking_at + n) us)))) _ c e in
    let t : (leb 1 n && (leb n booking_room && all (λ w. eqb w 0) (drop n ws))) ≡ true = rw (behind_three x y n n ws) at (require_some (leb 1 n && (leb n booking_room && all (λ w. eqb w 0) (drop (booking_at + n) us))) u e₁) in
    let t' : (leb n booking_room && all (λ w. eqb w 0) (drop n ws)) ≡ true = and_right (leb 1 n) _ t in
    subst (λ d. Recordable d × (us ≡ record_words d)) (some_inj (record { rule = x; plan = y; booking = take n ws }) c e₂) (as_charge x y n ws (omega arith) (le_of 1 n (and_left (leb 1 n) _ t)) (le_of n booking_room (and_left (leb n booking_room) _ t')) (zeros_were (drop n ws) (and_right (leb n booking_room) _ t')))

-- one record, and those behind it
module _ (n : ℕ) (ws : List ℕ) (more : is_empty ws ≡ false) where
  pub next_read : (c : Charge) (cs : List Charge) → record_length ≤ length ws → read_record (take record_length ws) ≡ some c → read_records n (drop record_length ws) ≡ some cs → read_records (suc n) ws ≡ some (c ∷ cs)
  next_read c cs l e f = rw (more, leb_yes record_length (length ws) l, e, f)

  pub next_was : (cs : List Charge) → read_records (suc n) ws ≡ some cs → (c : Charge) × (ds : List Charge) × (record_length ≤ length ws) × (read_record (take record_length ws) ≡ some c) × (read_records n (drop record_length ws) ≡ some ds) × (c ∷ ds ≡ cs)
  next_was cs e =
      let (u, e₁, f₁) = bind_some (require (leb record_length (length ws))) _ cs (rw more at e) in
      let (c, e₂, f₂) = bind_some (read_record (take record_length ws)) _ cs f₁ in
      let (ds, e₃, f₃) = bind_some (read_records n (drop record_length ws)) _ cs f₂ in
      (c, ds, le_of record_length (length ws) (require_some (leb record_length (length ws)) u e₁), e₂, e₃, some_inj (c ∷ ds) cs f₃)

-- at most n records
pub records_read : (n : ℕ) {cs : List Charge} → length cs ≤ n → All Recordable cs → read_records n (list_words cs) ≡ some cs
records_read zero l none_left = refl
records_read zero l (also c r rs) = absurd (omega arith)
records_read (suc n) l none_left = refl
records_read (suc n) l (also c {xs = cs} r rs) =
    let ws : List ℕ = record_words c ++ list_words cs in
    next_read n ws refl c cs (whole_record c r ws (list_words cs) refl) (ap read_record (take_at (record_words c) (list_words cs) record_length (record_long c r)) ∙ record_read c r) (ap (read_records n) (behind_record c r ws (list_words cs) refl) ∙ records_read n (omega arith) rs)

-- these charges are the words, at most n of them
abbrev pub Were : ℕ → List ℕ → List Charge → Type 0
Were n ws cs = (length cs ≤ n) × All Recordable cs × (ws ≡ list_words cs)

none_were : (n : ℕ) (cs : List Charge) → some [] ≡ some cs → Were n [] cs
none_were n cs e = subst (Were n []) (some_inj [] cs e) (omega arith, none_left, refl)

pub records_were : (n : ℕ) (ws : List ℕ) (cs : List Charge) → read_records n ws ≡ some cs → Were n ws cs
records_were zero [] cs e = none_were zero cs e
records_were zero (w ∷ ws) cs e = none≢some e
records_were (suc n) [] cs e = none_were (suc n) cs e
records_were (suc n) (w ∷ ws) cs e =
    let us : List ℕ = w ∷ ws in
    let (c, ds, l, e₁, e₂, f) = next_was n us refl cs e in
    let (r, q) = record_was (take record_length us) c (length-take-le record_length us l) e₁ in
    let (m, rs, p) = records_were n (drop record_length us) ds e₂ in
    subst (Were (suc n) us) f (omega arith, also c r rs, sym (take-append-drop record_length us) ∙ ap₂ ◌++◌ q p)

-- the whole list
pub words_read : (ws : List ℕ) (cs : List Charge) → ChargeWords ws cs → read_charges ws ≡ some cs
unfolding read_charges
words_read ws cs h = ap read_charges h.words_are ∙ records_read charge_limit h.few h.recordable

pub read_words : (ws : List ℕ) (cs : List Charge) → read_charges ws ≡ some cs → ChargeWords ws cs
unfolding read_charges
read_words ws cs e = let (l, rs, q) = records_were charge_limit ws cs e in record { few = l; recordable = rs; words_are = q }
