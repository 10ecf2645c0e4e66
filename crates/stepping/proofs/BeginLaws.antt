-- The words of a state before the first word, noted one after the other.
use mathlib.Core.Path.{◌≡◌, refl, sym, ap, subst, ◌∙◌}
use mathlib.Core.Logic.{◌⊎◌, inl, inr}
use mathlib.Core.List.{List, [], ◌∷◌}
use mathlib.Core.Option.{some}
use mathlib.Core.Bool.{Bool, true, false, cond}
use Prim.Native.Nat.{ℕ, zero, suc, ◌+◌, ◌-◌, ◌*◌, ◌/◌, ◌%◌, ◌≤◌, ◌<◌}
use native.Mathlib.Decide.{dec_le}
use native.Mathlib.Nat.{zero-add}
use native.Mathlib.Omega.{arith}
use lib.Dec.{eqb}
use lib.ListN.{length, get_or, get_elem?, set, replicate, length-set, length-replicate, get_or-eq_default}
use lib.Seq.{get_or-set_other}
use Rattle.signature.specs.Decoded.{Known, kinds_of, constructors_of, first_of, count_of, arity_of}
use Rattle.signature.specs.Limits.{kind_limit}
use Rattle.signature.specs.Lists.{memb, first, is_some}
use Rattle.signature.specs.Read.{count_kinds, read_signature}
use Rattle.signature.specs.Signature.{Signature, Constructor, declares, is_number_kind, numbers, heads, arguments}
use Rattle.signature.proofs.Booleans.{and_right}
use Rattle.signature.proofs.Counting.{getD_counted, counted_length, set_is}
use Rattle.signature.proofs.Heads.{any_at, number_has}
use Rattle.signature.proofs.KnownFacts.{constructors, arity_is, few_constructors, few_kinds}
use Rattle.signature.proofs.LawfulFacts.{kinds_kind}
use Rattle.signature.proofs.ListFacts.{same_lists, getD_rep}
use Rattle.signature.proofs.Tests.{eqb_self, eqb_eq, eqb_ne, ltb_yes, ltb_no, same_some}
use Rattle.stepping.specs.State.{number_at, number_in, heads_at, rows_at, values_at, state_words, row_starts, row_word, head_word, begun_word, begun, begin_state, refusal_in}
use Rattle.stepping.specs.Begun.{HeadsNoted, RowsNoted}
use Rattle.booking.proofs.PartLaws.{Of, missing}

-- n words from index at on are those of f, and all other words stay
pub record Noted (at n : ℕ) (f : ℕ → ℕ) (st st' : List ℕ) : Type 0 where
  pub long : length st' ≡ length st
  pub noted : (j : ℕ) → j < n → get_or st' (at + j) 0 ≡ f j
  pub other : (i : ℕ) → (i < at) ⊎ (at + n ≤ i) → get_or st' i 0 ≡ get_or st i 0

module _ {at n : ℕ} {f : ℕ → ℕ} {st u : List ℕ} (h : Noted at n f st u) where
  -- one word more
  pub noted_more : (i v : ℕ) → i ≡ at + n → i < length u → v ≡ f n → Noted at (n + 1) f st (set u i v)
  noted_more i v e l q = record { long = length-set u i v ∙ h.long; noted = noted; other = other }
    where
      noted : (j : ℕ) → j < n + 1 → get_or (set u i v) (at + j) 0 ≡ f j
      noted j m = go (eqb j n) refl
        where
          go : (b : Bool) → eqb j n ≡ b → get_or (set u i v) (at + j) 0 ≡ f j
          go true p = let z : j ≡ n = eqb_eq j n p in set_is u i (at + j) v l (omega arith) ∙ q ∙ ap f (sym z)
          go false p = let z : ¬ (j ≡ n) = eqb_ne j n p in get_or-set_other u i (at + j) v 0 (λ w. omega arith) ∙ h.noted j (omega arith)

      other : (k : ℕ) → (k < at) ⊎ (at + (n + 1) ≤ k) → get_or (set u i v) k 0 ≡ get_or st k 0
      other k (inl m) = get_or-set_other u i k v 0 (λ w. omega arith) ∙ h.other k (inl m)
      other k (inr m) = get_or-set_other u i k v 0 (λ w. omega arith) ∙ h.other k (inr (omega arith))

  -- the same count by another name
  pub noted_all : (m : ℕ) → n ≡ m → Noted at m f st u
  noted_all m e = subst (λ k. Noted at k f st u) e h

-- a kind's first word
head_even : (sig : Signature) (k : ℕ) → head_word sig (2 * k) ≡ first (heads sig k)
head_even sig k =
    let r : (2 * k) % 2 ≡ 0 = omega arith in
    let q : (2 * k) / 2 ≡ k = omega arith in
    rw (r, q)

-- its second word
head_odd : (sig : Signature) (k : ℕ) → head_word sig (2 * k + 1) ≡ length (heads sig k)
head_odd sig k =
    let r : (2 * k + 1) % 2 ≡ 1 = omega arith in
    let q : (2 * k + 1) / 2 ≡ k = omega arith in
    rw (r, q)

module _ {t st : List ℕ} (g : Known t) where
  -- a kind more: its first head and how many they are
  pub heads_more : (u : List ℕ) (k a b : ℕ) → k < kinds_of t → heads_at + 2 * k + 1 < length u → a ≡ first_of t k → b ≡ count_of t k → Noted heads_at (2 * k) (head_word g.sig) st u → Noted heads_at (2 * (k + 1)) (head_word g.sig) st (set (set u (heads_at + 2 * k) a) (heads_at + 2 * k + 1) b)
  heads_more u k a b l m p q h =
      let below : k < g.decoded.n = omega (arith, g.decoded.kind_count) in
      let first_is = p ∙ g.decoded.first_head k below ∙ sym (head_even g.sig k) in
      let count_is = q ∙ g.decoded.head_count k below ∙ sym (head_odd g.sig k) in
      let at_first = noted_more h (heads_at + 2 * k) a refl (omega arith) first_is in
      let at_count = noted_more at_first (heads_at + 2 * k + 1) b (omega arith) (omega (arith, length-set u (heads_at + 2 * k) a)) count_is in
      noted_all at_count (2 * (k + 1)) (omega arith)

  -- all kinds
  pub heads_all : (u : List ℕ) (k : ℕ) → k ≡ kinds_of t → Noted heads_at (2 * k) (head_word g.sig) st u → HeadsNoted g.sig st u
  heads_all u k e h = let z = noted_all h (2 * g.decoded.n) (omega (arith, g.decoded.kind_count)) in record { n = g.decoded.n; kinds_are = g.decoded.kinds_are; long = z.long; noted = z.noted; other = z.other }

-- a row begins behind the words of the one before it
next_start : (i : ℕ) (sig : Signature) (c : ℕ) → suc c < length sig → get_or (row_starts i sig) (suc c) 0 ≡ get_or (row_starts i sig) c 0 + 2 + length (arguments sig c)
next_start i [] c l = absurd (omega arith)
next_start i (d ∷ []) c l = absurd (omega arith)
next_start i (d ∷ (e ∷ ds)) zero l = refl
next_start i (d ∷ (e ∷ ds)) (suc c) l = next_start (i + 2 + length d.args) (e ∷ ds) c (omega arith)

-- the same in the state's words
next_row : (sig : Signature) (c : ℕ) → c + 1 < length sig → row_word sig (c + 1) ≡ row_word sig c + 2 + length (arguments sig c)
next_row sig c l = let e : c + 1 ≡ suc c = omega arith in ap (row_word sig) e ∙ next_start 1 sig c (omega arith)

-- c rows are noted, and the next one begins at the index at
pub record Rows (sig : Signature) (st : List ℕ) (at c : ℕ) (u : List ℕ) : Type 0 where
  pub next : c < length sig → at ≡ row_word sig c
  pub before : Noted rows_at c (row_word sig) st u

module _ {t st : List ℕ} (g : Known t) where
  -- a row more
  pub rows_more : (u : List ℕ) (at c a : ℕ) → c < constructors_of t → rows_at + c < length u → a ≡ arity_of t c → Rows g.sig st at c u → Rows g.sig st (at + (2 + a)) (c + 1) (set u (rows_at + c) at)
  rows_more u at c a l m e h =
      let below : c < length g.sig = omega (arith, constructors g) in
      record { next = λ p. omega (arith, h.next below, e, arity_is g c below, next_row g.sig c p); before = noted_more h.before (rows_at + c) at refl m (h.next below) }

-- as many rows begin as there are constructors
starts_length : (i : ℕ) (sig : Signature) → length (row_starts i sig) ≡ length sig
starts_length i [] = refl
starts_length i (d ∷ ds) = ap suc (starts_length (i + 2 + length d.args) ds)

-- no row begins there where there is no constructor
no_row : (sig : Signature) (c : ℕ) → length sig ≤ c → row_word sig c ≡ 0
no_row sig c l = get_or-eq_default (row_starts 1 sig) 0 (omega (arith, starts_length 1 sig))

-- a list with no member is empty
empty_of : (xs : List ℕ) → ((x : ℕ) → memb x xs ≡ true → ⊥) → xs ≡ []
empty_of [] f = refl
empty_of (x ∷ xs) f = absurd (f x (rw (eqb_self x)))

module _ (sig : Signature) (n : ℕ) (e : count_kinds sig ≡ some n) where
  -- no row has a kind that does not exist
  no_kind : (i k : ℕ) (d : Constructor) → n ≤ k → get_elem? sig i ≡ some d → eqb d.kind k ≡ true → ⊥
  no_kind i k d l p q = omega (arith, kinds_kind sig n i d e p, eqb_eq d.kind k q)

  -- a kind that does not exist has no heads
  pub no_heads : (k : ℕ) → n ≤ k → heads sig k ≡ []
  no_heads k l = go (is_number_kind sig k) refl
    where
      go : (b : Bool) → is_number_kind sig k ≡ b → heads sig k ≡ []
      go true q = absurd (let (i, d, p, r) = any_at (declares k) sig q in no_kind i k d l p (and_right d.number (eqb d.kind k) r))
      go false q = rw q (empty_of (numbers sig k) (λ x m. let (d, p, r) = number_has sig x k m in no_kind x k d l p r))

  -- and its words are 0
  no_head_word : (j : ℕ) → 2 * n ≤ j → head_word sig j ≡ 0
  no_head_word j l = rw (no_heads (j / 2) (omega arith)) (go (eqb (j % 2) 0))
    where
      go : (b : Bool) → ◌≡◌ {A = ℕ} (cond b 0 0) 0
      go true = refl
      go false = refl

-- the words in which the heads and the rows were noted
module _ {t : List ℕ} (g : Known t) (st u : List ℕ) (h : HeadsNoted g.sig (replicate state_words 0) st) (r : RowsNoted g.sig st u) where
  -- there are at most 32 kinds
  few : h.n ≤ kind_limit
  few = omega (arith, same_some h.n g.decoded.n (count_kinds g.sig) h.kinds_are g.decoded.kinds_are, few_kinds g)

  -- a word that neither pass noted is 0
  untouched : (i : ℕ) → i < state_words → (i < rows_at) ⊎ (rows_at + length g.sig ≤ i) → (i < heads_at) ⊎ (heads_at + 2 * h.n ≤ i) → get_or u i 0 ≡ 0
  untouched i l a b = r.other i a ∙ h.other i b ∙ getD_rep state_words i 0 0 l

  -- a word among the heads
  head_at : (j : ℕ) → heads_at + j < rows_at → get_or u (heads_at + j) 0 ≡ head_word g.sig j
  head_at j l = go (dec_le (2 * h.n) j)
    where
      go : Dec (2 * h.n ≤ j) → get_or u (heads_at + j) 0 ≡ head_word g.sig j
      go (yes m) = untouched (heads_at + j) (omega arith) (inl l) (inr (omega arith)) ∙ sym (no_head_word g.sig h.n h.kinds_are j m)
      go (no m) = r.other (heads_at + j) (inl l) ∙ h.noted j (omega arith)

  -- a word among the rows
  row_at : (c : ℕ) → rows_at + c < values_at → get_or u (rows_at + c) 0 ≡ row_word g.sig c
  row_at c l = go (dec_le (length g.sig) c)
    where
      go : Dec (length g.sig ≤ c) → get_or u (rows_at + c) 0 ≡ row_word g.sig c
      go (yes m) = untouched (rows_at + c) (omega arith) (inr (omega arith)) (inr (omega (arith, few))) ∙ sym (no_row g.sig c m)
      go (no m) = r.noted c (omega arith)

  -- each word of the state
  word_at : (i : ℕ) → i < state_words → get_or u i 0 ≡ begun_word g.sig i
  word_at i l = go (dec_le heads_at i) (dec_le rows_at i) (dec_le values_at i)
    where
      go : Dec (heads_at ≤ i) → Dec (rows_at ≤ i) → Dec (values_at ≤ i) → get_or u i 0 ≡ begun_word g.sig i
      go (no a) b c = rw (ltb_yes i heads_at (omega arith)) (untouched i l (inl (omega arith)) (inl (omega arith)))
      go (yes a) (no b) c =
          let z : heads_at + (i - heads_at) ≡ i = omega arith in
          rw (ltb_no i heads_at a, ltb_yes i rows_at (omega arith)) (ap (λ x. get_or u x 0) (sym z) ∙ head_at (i - heads_at) (omega arith))
      go (yes a) (yes b) (no c) =
          let z : rows_at + (i - rows_at) ≡ i = omega arith in
          rw (ltb_no i heads_at a, ltb_no i rows_at b, ltb_yes i values_at (omega arith)) (ap (λ x. get_or u x 0) (sym z) ∙ row_at (i - rows_at) (omega arith))
      go (yes a) (yes b) (yes c) = rw (ltb_no i heads_at a, ltb_no i rows_at b, ltb_no i values_at c) (untouched i l (inr (omega (arith, few_constructors g))) (inr (omega (arith, few))))

  -- the whole state
  state_is : u ≡ begun (some g.sig)
  state_is =
      let size : length u ≡ state_words = r.long ∙ h.long ∙ length-replicate {A = ℕ} state_words 0 in
      same_lists u (begun (some g.sig)) (size ∙ sym (counted_length (begun_word g.sig) 0 state_words)) (λ x l. let m : x < state_words = omega (arith, size) in word_at x m ∙ sym (getD_counted (begun_word g.sig) 0 state_words x m ∙ ap (begun_word g.sig) (zero-add x)))

-- a state with a lawful signature tells no refusal
lawful_number : (sig : Signature) → 0 ≡ refusal_in (begun (some sig))
lawful_number sig = let z : number_in (begun (some sig)) ≡ 0 = getD_counted (begun_word sig) 0 state_words 0 (omega arith) in rw z

-- what is written where the signature is lawful
pub begun_lawful : {ss t : List ℕ} (o : Of ss t) (zs st u : List ℕ) → zs ≡ replicate state_words 0 → HeadsNoted o.known.sig zs st → RowsNoted o.known.sig st u → (u ≡ begin_state ss) × (0 ≡ refusal_in (begin_state ss))
begun_lawful o zs st u e h r = rw o.read (state_is o.known st u (subst (λ z. HeadsNoted o.known.sig z st) e h) r, lawful_number o.known.sig)

-- what is written where it is not
pub begun_unlawful : (ss zs : List ℕ) → zs ≡ replicate state_words 0 → false ≡ is_some (read_signature ss) → (set zs number_at 1 ≡ begin_state ss) × (1 ≡ refusal_in (begin_state ss))
begun_unlawful ss zs z e = rw (missing (read_signature ss) e) (ap (λ x. set x number_at 1) z, refl)
