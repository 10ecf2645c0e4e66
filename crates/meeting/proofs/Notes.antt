-- Bits of the matrix: the words of a row, one after the other.
use mathlib.Core.Path.{◌≡◌, refl, sym, ap, ap₂, ◌∙◌}
use mathlib.Core.List.{List}
use mathlib.Core.Bool.{Bool, true, false, cond, not, ◌&&◌, ◌||◌, and-true, and-false}
use Prim.Native.Nat.{ℕ, ◌+◌, ◌*◌, ◌/◌, ◌%◌, ◌≤◌, ◌<◌}
use native.Mathlib.Omega.{arith}
use borrow.Author.Tests.{lt-ltb, le-ltb}
use lib.Dec.{eqb, ltb}
use lib.ListN.{length, get_or, set}
use lib.Seq.{get_or-set_same, get_or-set_other}
use Rattle.signature.proofs.Tests.{eqb_eq, eqb_ne, true≢false}
use Rattle.sets.specs.Set.{bit, set_limit, Lowest}
use Rattle.rowset.specs.Limits.{row_limit}
use Rattle.rowset.specs.Member.{member, in_word}
use Rattle.rowset.proofs.MemberLaws.{member_is}
use Rattle.meeting.specs.Matrix.{meets}
use Rattle.meeting.specs.Descent.{Noted}
use Rattle.rowset.proofs.WordLaws.{Done, Grows, Left, gone, among, done_none, done_more, done_same, gone_none, gone_all, bits_grow, among_none, among_all, words_grow, word_more, word_new, bit_off}

pub meets_is : (m : List ℕ) (i j : ℕ) → eqb (bit (get_or m (4 * i + j / 64) 0) (j % 64)) 1 ≡ meets m i j
unfolding meets
meets_is m i j = refl

-- the bits of row i with the rows of the first w words
abbrev pub in_row : ℕ → ℕ → ℕ → ℕ → Bool
in_row i w q j = eqb q i && ltb j (set_limit * w)

-- those with the rows of word w
abbrev at_word : ℕ → ℕ → ℕ → ℕ → Bool
at_word i w q j = eqb q i && eqb (j / set_limit) w

row_grow : (i w q : ℕ) → Grows (in_row i w q) (at_word i w q) (in_row i (w + 1) q)
row_grow i w q = record {
  apart = λ j e. apart j (eqb q i) (eqb (j / 64) w) refl e;
  both = λ j. both j (eqb q i);
}
  where
    apart : (j : ℕ) (x y : Bool) → eqb (j / 64) w ≡ y → (x && y) ≡ true → (x && ltb j (64 * w)) ≡ false
    apart j true true e k = word_new w j e
    apart j true false e k = true≢false (sym k)
    apart j false true e k = refl
    apart j false false e k = refl

    both : (j : ℕ) (x : Bool) → (x && ltb j (64 * (w + 1))) ≡ (x && ltb j (64 * w) || x && eqb (j / 64) w)
    both j true = word_more w j
    both j false = refl

-- a word of row i is written
row_word : (op : ℕ → Bool → Bool) (m : List ℕ) (i w v q : ℕ) → w < 4 → 4 * i + w < length m → ((j : ℕ) → j / 64 ≡ w → eqb (bit v (j % 64)) 1 ≡ op j (meets m i j)) → Done (at_word i w q) op (meets m q) (meets (set m (4 * i + w) v) q)
row_word op m i w v q s l h j k = sym (meets_is (set m (4 * i + w) v) q j) ∙ go (eqb q i) refl (eqb (j / 64) w) refl
  where
    other : ¬ (4 * q + j / 64 ≡ 4 * i + w) → eqb (bit (get_or (set m (4 * i + w) v) (4 * q + j / 64) 0) (j % 64)) 1 ≡ meets m q j
    other n = ap (λ (u : ℕ). eqb (bit u (j % 64)) 1) (get_or-set_other m (4 * i + w) (4 * q + j / 64) v 0 n) ∙ meets_is m q j

    go : (x : Bool) → eqb q i ≡ x → (y : Bool) → eqb (j / 64) w ≡ y → eqb (bit (get_or (set m (4 * i + w) v) (4 * q + j / 64) 0) (j % 64)) 1 ≡ cond (x && y) (op j (meets m q j)) (meets m q j)
    go true e true f =
        let a : q ≡ i = eqb_eq q i e in
        let b : j / 64 ≡ w = eqb_eq (j / 64) w f in
        let at : 4 * q + j / 64 ≡ 4 * i + w = omega arith in
        ap (λ (u : ℕ). eqb (bit u (j % 64)) 1) (ap (λ (n : ℕ). get_or (set m (4 * i + w) v) n 0) at ∙ get_or-set_same m (4 * i + w) v 0 l) ∙ h j b ∙ ap (λ (n : ℕ). op j (meets m n j)) (sym a)
    go true e false f = let n : ¬ (j / 64 ≡ w) = eqb_ne (j / 64) w f in other (λ z. n (omega (arith, eqb_eq q i e)))
    go false e true f = let n : ¬ (q ≡ i) = eqb_ne q i e in other (λ z. n (omega arith))
    go false e false f = let n : ¬ (q ≡ i) = eqb_ne q i e in other (λ z. n (omega arith))

-- the bits of row i with the rows of the first w words are changed, all others stay
abbrev pub RowDone : (ℕ → Bool → Bool) → ℕ → ℕ → List ℕ → List ℕ → Type 0
RowDone op i w m m' = (q : ℕ) → Done (in_row i w q) op (meets m q) (meets m' q)

pub row_start : (op : ℕ → Bool → Bool) (i : ℕ) (m : List ℕ) → RowDone op i 0 m m
row_start op i m q = done_none op (meets m q) (in_row i 0 q) (λ j l. ap (λ (b : Bool). eqb q i && b) (le-ltb j 0 (omega arith)) ∙ and-false (eqb q i))

row_turn : (op : ℕ → Bool → Bool) (i w v : ℕ) (m₀ m : List ℕ) → w < 4 → 4 * i + w < length m → RowDone op i w m₀ m → ((j : ℕ) → j / 64 ≡ w → eqb (bit v (j % 64)) 1 ≡ op j (meets m i j)) → RowDone op i (w + 1) m₀ (set m (4 * i + w) v)
row_turn op i w v m₀ m s l k h q = done_more op (meets m₀ q) (in_row i w q) (at_word i w q) (in_row i (w + 1) q) (meets m q) (meets (set m (4 * i + w) v) q) (row_grow i w q) (k q) (row_word op m i w v q s l h)

pub row_end : (op : ℕ → Bool → Bool) (i w : ℕ) (m₀ m : List ℕ) → 4 ≤ w → RowDone op i w m₀ m → (q : ℕ) → Done (λ j. eqb q i) op (meets m₀ q) (meets m q)
row_end op i w m₀ m h k q = done_same op (meets m₀ q) (in_row i w q) (λ j. eqb q i) (meets m q) (λ j l. ap (λ (b : Bool). eqb q i && b) (lt-ltb j (64 * w) (omega arith)) ∙ and-true (eqb q i)) (k q)

-- the word of a set is put there, or taken off
abbrev pub put_in : List ℕ → ℕ → Bool → Bool
put_in s j x = member s j

abbrev pub take_off : List ℕ → ℕ → Bool → Bool
take_off off j x = x && not (member off j)

pub put_turn : (s : List ℕ) (i w : ℕ) (m₀ m : List ℕ) → w < 4 → 4 * i + w < length m → RowDone (put_in s) i w m₀ m → RowDone (put_in s) i (w + 1) m₀ (set m (4 * i + w) (get_or s w 0))
put_turn s i w m₀ m h l k = row_turn (put_in s) i w (get_or s w 0) m₀ m h l k (λ j e. ap (λ (u : ℕ). eqb (bit (get_or s u 0) (j % 64)) 1) (sym e) ∙ member_is s j)

pub off_turn : (off : List ℕ) (i w v : ℕ) (m₀ m : List ℕ) → w < 4 → 4 * i + w < length m → ((j : ℕ) → bit v j ≡ cond (eqb (bit (get_or off w 0) j) 1) 0 (bit (get_or m (4 * i + w) 0) j)) → RowDone (take_off off) i w m₀ m → RowDone (take_off off) i (w + 1) m₀ (set m (4 * i + w) v)
off_turn off i w v m₀ m h l g k = row_turn (take_off off) i w v m₀ m h l k (λ j e.
    ap (λ (n : ℕ). eqb n 1) (g (j % 64))
    ∙ bit_off (eqb (bit (get_or off w 0) (j % 64)) 1) (bit (get_or m (4 * i + w) 0) (j % 64))
    ∙ ap₂ (λ (x y : Bool). x && not y) (ap (λ (u : ℕ). eqb (bit (get_or m (4 * i + u) 0) (j % 64)) 1) (sym e) ∙ meets_is m i j) (ap (λ (u : ℕ). eqb (bit (get_or off u 0) (j % 64)) 1) (sym e) ∙ member_is off j))

-- bits that are noted, row by row
off_if : (p o x : Bool) → cond p (x && not o) x ≡ (x && not (p && o))
off_if true o x = refl
off_if false o x = sym (and-true x)

off_done : (p o : ℕ → Bool) (m m' : List ℕ) → Noted p o m m' → (j : ℕ) → j < row_limit → Done p (λ i x. x && not (o j)) (λ i. meets m i j) (λ i. meets m' i j)
off_done p o m m' h j k i l = h i j l k ∙ sym (off_if (p i) (o j) (meets m i j))

noted : (p o : ℕ → Bool) (m m' : List ℕ) → ((j : ℕ) → j < row_limit → Done p (λ i x. x && not (o j)) (λ i. meets m i j) (λ i. meets m' i j)) → Noted p o m m'
noted p o m m' h i j l k = h j k i l ∙ off_if (p i) (o j) (meets m i j)

pub row_noted : (off : List ℕ) (i w : ℕ) (m₀ m : List ℕ) → 4 ≤ w → RowDone (take_off off) i w m₀ m → Noted (λ q. eqb q i) (member off) m₀ m
row_noted off i w m₀ m h k q j l n = row_end (take_off off) i w m₀ m h k q j n ∙ off_if (eqb q i) (member off j) (meets m₀ q j)

noted_none : (p o : ℕ → Bool) (m : List ℕ) → ((q : ℕ) → q < row_limit → p q ≡ false) → Noted p o m m
noted_none p o m h = noted p o m m (λ j k. done_none (λ i x. x && not (o j)) (λ i. meets m i j) p h)

noted_same : (p p' o : ℕ → Bool) (m m' : List ℕ) → ((q : ℕ) → q < row_limit → p q ≡ p' q) → Noted p o m m' → Noted p' o m m'
noted_same p p' o m m' h k = noted p' o m m' (λ j l. done_same (λ i x. x && not (o j)) (λ i. meets m i j) p p' (λ i. meets m' i j) h (off_done p o m m' k j l))

noted_more : (p r p' o : ℕ → Bool) (m₀ m m' : List ℕ) → Grows p r p' → Noted p o m₀ m → Noted r o m m' → Noted p' o m₀ m'
noted_more p r p' o m₀ m m' g h k = noted p' o m₀ m' (λ j l. done_more (λ i x. x && not (o j)) (λ i. meets m₀ i j) p r p' (λ i. meets m i j) (λ i. meets m' i j) g (off_done p o m₀ m h j l) (off_done r o m m' k j l))

module _ (o : ℕ → Bool) (m₀ : List ℕ) where
  pub note_bits_start : (base word : ℕ) → Noted (gone base word word) o m₀ m₀
  note_bits_start base word = noted_none (gone base word word) o m₀ (λ q _. gone_none base word q)

  pub note_bits_turn : (base word left b next : ℕ) (m m' : List ℕ) → Left base word left → Lowest set_limit left b → ((j : ℕ) → bit next j ≡ cond (eqb j b) 0 (bit left j)) → Noted (gone base word left) o m₀ m → Noted (λ q. eqb q (base + b)) o m m' → Noted (gone base word next) o m₀ m'
  note_bits_turn base word left b next m m' h low without = noted_more (gone base word left) (λ q. eqb q (base + b)) (gone base word next) o m₀ m m' (bits_grow base left b low next without word h)

  pub note_bits_end : (base word left : ℕ) (m : List ℕ) → left ≤ 0 → Noted (gone base word left) o m₀ m → Noted (in_word base word) o m₀ m
  note_bits_end base word left m l = noted_same (gone base word left) (in_word base word) o m₀ m (λ q _. gone_all base word left q l)

  pub note_words_start : (s : List ℕ) → Noted (among s 0) o m₀ m₀
  note_words_start s = noted_none (among s 0) o m₀ (λ q _. among_none s q)

  pub note_words_turn : (s : List ℕ) (w : ℕ) (m m' : List ℕ) → Noted (among s w) o m₀ m → Noted (in_word (set_limit * w) (get_or s w 0)) o m m' → Noted (among s (w + 1)) o m₀ m'
  note_words_turn s w m m' = noted_more (among s w) (in_word (set_limit * w) (get_or s w 0)) (among s (w + 1)) o m₀ m m' (words_grow s w)

  pub note_words_end : (s : List ℕ) (w : ℕ) (m : List ℕ) → 4 ≤ w → Noted (among s w) o m₀ m → Noted (member s) o m₀ m
  note_words_end s w m h = noted_same (among s w) (member s) o m₀ m (λ q l. among_all s w q h l)

-- noted both ways
pub noted_both : (x y : ℕ → Bool) (m₀ m₁ m₂ : List ℕ) → Noted x y m₀ m₁ → Noted y x m₁ m₂ → (i j : ℕ) → i < row_limit → j < row_limit → meets m₂ i j ≡ (meets m₀ i j && not (x i && y j) && not (y i && x j))
noted_both x y m₀ m₁ m₂ h k i j l n = k i j l n ∙ ap (λ (b : Bool). b && not (y i && x j)) (h i j l n)

-- where the one set is empty nothing is to be noted
pub noted_nothing : (x y : ℕ → Bool) (m : List ℕ) → ((q : ℕ) → q < row_limit → y q ≡ false) → (i j : ℕ) → i < row_limit → j < row_limit → meets m i j ≡ (meets m i j && not (x i && y j) && not (y i && x j))
noted_nothing x y m h i j l n = sym (ap₂ (λ (a b : Bool). meets m i j && not (x i && a) && not (b && x j)) (h j n) (h i l) ∙ go (meets m i j) (x i))
  where
    go : (a b : Bool) → (a && not (b && false) && true) ≡ a
    go true true = refl
    go true false = refl
    go false true = refl
    go false false = refl

-- the first i rows meet the rows of a set
abbrev pub RowsAre : List ℕ → ℕ → List ℕ → Type 0
RowsAre s i m = (q j : ℕ) → q < i → j < row_limit → meets m q j ≡ member s j

pub rows_turn : (s m m' : List ℕ) (i : ℕ) → i < row_limit → RowsAre s i m → ((q j : ℕ) → q < row_limit → j < row_limit → meets m' q j ≡ cond (eqb q i) (member s j) (meets m q j)) → RowsAre s (i + 1) m'
rows_turn s m m' i h k g q j l n = g q j (omega arith) n ∙ go (eqb q i) refl
  where
    go : (b : Bool) → eqb q i ≡ b → cond b (member s j) (meets m q j) ≡ member s j
    go true e = refl
    go false e = k q j (omega (arith, eqb_ne q i e)) n
