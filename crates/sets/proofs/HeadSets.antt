-- A set of heads in two words: the bits, the size and the lowest member of its number.
use mathlib.Core.Path.{◌≡◌, refl, sym, ap, ap₂, ◌∙◌}
use mathlib.Core.Bool.{Bool, true, false, cond, ◌&&◌}
use Prim.Native.Nat.{ℕ, zero, suc, ◌+◌, ◌-◌, ◌*◌, ◌/◌, ◌%◌, ◌^◌, ◌≤◌, ◌<◌, max}
use native.Mathlib.Nat.{pow-suc, zero-add, suc-add, add_comm}
use native.Mathlib.Omega.{arith}
use borrow.Author.Tests.{ltb-true, ltb-false, lt-ltb, le-ltb, le-leb, lt-leb, eq-eqb, ne_eqb, eqb-true, eqb-false}
use lib.Arith.{digits_lt, le-zero}
use lib.Bits.{block_half, block_odd}
use lib.Count.{ones, ones_cat}
use lib.Dec.{eqb, ltb, leb}
use lib.ListN.{length}
use lib.Pow.{split, low, high, pow_pos}
use Rattle.sets.specs.Set.{heads_width, bit, members, Lowest}
use Rattle.sets.specs.Heads.{number_of, two_words, low_word, high_word}
use Rattle.sets.specs.declared.heads.Heads.{Heads}
use Rattle.sets.proofs.SetLaws.{ones_empty, ones_zero, bit_lt, bit_zero, bit_below, size_members, size_none, Low}

-- a bit below the width of the low word is its bit
pub bit_low : (k h l i : ℕ) → i < k → bit (h * 2 ^ k + l) i ≡ bit l i
unfolding bit
bit_low zero h l i q = absurd (omega arith)
bit_low (suc k) h l zero q = block_odd h k l
bit_low (suc k) h l (suc i) q = rw (block_half h k l) (bit_low k h (l / 2) i (omega arith))

-- any other is one of the high word
pub bit_upper : (k h l i : ℕ) → l < 2 ^ k → bit (h * 2 ^ k + l) (k + i) ≡ bit h i
unfolding bit
bit_upper zero h l i q = let z : h * 2 ^ 0 + l ≡ h = omega arith in rw (z, zero-add)
bit_upper (suc k) h l i q =
    let e : 2 ^ suc k ≡ 2 ^ k * 2 = pow-suc 2 k in
    ap (bit (h * 2 ^ suc k + l)) (suc-add k i) ∙ ap (λ (n : ℕ). bit n (k + i)) (block_half h k l) ∙ bit_upper k h (l / 2) i (omega arith)

-- a number by its words, bit by bit
pub by_words : (f : ℕ → ℕ) (h l : ℕ) → l < 2 ^ 64 → ((j : ℕ) → j < 64 → bit l j ≡ f j) → ((j : ℕ) → bit h j ≡ f (64 + j)) → (j : ℕ) → bit (h * 2 ^ 64 + l) j ≡ f j
by_words f h l q a b j = go (ltb j 64) refl
  where
    go : (t : Bool) → ltb j 64 ≡ t → bit (h * 2 ^ 64 + l) j ≡ f j
    go true e = bit_low 64 h l j (ltb-true j 64 e) ∙ a j (ltb-true j 64 e)
    go false e =
        let z : 64 + (j - 64) ≡ j = omega (arith, ltb-false j 64 e) in
        ap (bit (h * 2 ^ 64 + l)) (sym z) ∙ bit_upper 64 h l (j - 64) q ∙ b (j - 64) ∙ ap f z

pub bit_above : (h l i : ℕ) → l < 2 ^ 64 → 64 ≤ i → bit (h * 2 ^ 64 + l) i ≡ bit h (i - 64)
bit_above h l i q g = let z : 64 + (i - 64) ≡ i = omega (arith, g) in ap (bit (h * 2 ^ 64 + l)) (sym z) ∙ bit_upper 64 h l (i - 64) q

-- a number in two words, and back
pub number_words : (m : ℕ) → number_of (two_words m) ≡ m
number_words m = split m 64

pub low_is : (s : Heads) → s.low < 2 ^ 64 → low_word (number_of s) ≡ s.low
low_is s q = low s.high 64 q

pub high_is : (s : Heads) → s.low < 2 ^ 64 → high_word (number_of s) ≡ s.high
high_is s q = high s.high 64 q

pub words_number : (s : Heads) → s.low < 2 ^ 64 → two_words (number_of s) ≡ s
words_number s q = ap₂ (λ (a b : ℕ). record { low = a; high = b }) (low_is s q) (high_is s q)

-- tests of a number of the high word
same_above : (i j : ℕ) → 64 ≤ i → eqb j (i - 64) ≡ eqb (64 + j) i
same_above i j g = go (eqb j (i - 64)) refl
  where
    go : (t : Bool) → eqb j (i - 64) ≡ t → t ≡ eqb (64 + j) i
    go true e = sym (eq-eqb (64 + j) i (omega (arith, eqb-true j (i - 64) e, g)))
    go false e = sym (ne_eqb (64 + j) i (λ z. eqb-false j (i - 64) e (omega (arith, z))))

less_above : (n j : ℕ) → 64 ≤ n → ltb j (n - 64) ≡ ltb (64 + j) n
less_above n j g = go (ltb j (n - 64)) refl
  where
    go : (t : Bool) → ltb j (n - 64) ≡ t → t ≡ ltb (64 + j) n
    go true e = sym (lt-ltb (64 + j) n (omega (arith, ltb-true j (n - 64) e)))
    go false e = sym (le-ltb (64 + j) n (omega (arith, ltb-false j (n - 64) e, g)))

-- one number
pub only_low : (i l : ℕ) → i < 64 → l < 2 ^ 64 → ((j : ℕ) → bit l j ≡ cond (eqb j i) 1 0) → (j : ℕ) → bit (0 * 2 ^ 64 + l) j ≡ cond (eqb j i) 1 0
only_low i l h q e = by_words (λ j. cond (eqb j i) 1 0) 0 l q (λ j g. e j) (λ j. bit_zero j ∙ sym (ap (λ (t : Bool). cond t 1 0) (ne_eqb (64 + j) i (λ z. omega (arith, z, h)))))

pub only_high : (i h : ℕ) → 64 ≤ i → ((j : ℕ) → bit h j ≡ cond (eqb j (i - 64)) 1 0) → (j : ℕ) → bit (h * 2 ^ 64 + 0) j ≡ cond (eqb j i) 1 0
only_high i h g e = by_words (λ j. cond (eqb j i) 1 0) h 0 (pow_pos 64)
    (λ j q. bit_zero j ∙ sym (ap (λ (t : Bool). cond t 1 0) (ne_eqb j i (λ z. omega (arith, z, g, q)))))
    (λ j. e j ∙ ap (λ (t : Bool). cond t 1 0) (same_above i j g))

-- one number less; h and l are the words before, m the one that is changed
module _ (h l i m : ℕ) (q : l < 2 ^ 64) where
  abbrev less : ℕ → ℕ
  less j = cond (eqb j i) 0 (bit (h * 2 ^ 64 + l) j)

  pub without_low : i < 64 → m < 2 ^ 64 → ((j : ℕ) → bit m j ≡ cond (eqb j i) 0 (bit l j)) → (j : ℕ) → bit (h * 2 ^ 64 + m) j ≡ cond (eqb j i) 0 (bit (h * 2 ^ 64 + l) j)
  without_low g n e = by_words less h m n
      (λ j u. e j ∙ ap (cond (eqb j i) 0) (sym (bit_low 64 h l j u)))
      (λ j. sym (bit_upper 64 h l j q) ∙ ap (λ (t : Bool). cond t 0 (bit (h * 2 ^ 64 + l) (64 + j))) (sym (ne_eqb (64 + j) i (λ z. omega (arith, z, g)))))

  pub without_high : 64 ≤ i → ((j : ℕ) → bit m j ≡ cond (eqb j (i - 64)) 0 (bit h j)) → (j : ℕ) → bit (m * 2 ^ 64 + l) j ≡ cond (eqb j i) 0 (bit (h * 2 ^ 64 + l) j)
  without_high g e = by_words less m l q
      (λ j u. sym (bit_low 64 h l j u) ∙ ap (λ (t : Bool). cond t 0 (bit (h * 2 ^ 64 + l) j)) (sym (ne_eqb j i (λ z. omega (arith, z, g, u)))))
      (λ j. e j ∙ ap₂ (λ (t : Bool) (b : ℕ). cond t 0 b) (same_above i j g) (sym (bit_upper 64 h l j q)))

-- two sets, word by word: F says of their bits what f and g are of their words
pub word_by_word : (F : ℕ → ℕ → ℕ) (h l k m a b : ℕ) → l < 2 ^ 64 → m < 2 ^ 64 → b < 2 ^ 64 → ((j : ℕ) → bit a j ≡ F (bit h j) (bit k j)) → ((j : ℕ) → bit b j ≡ F (bit l j) (bit m j))
    → (j : ℕ) → bit (a * 2 ^ 64 + b) j ≡ F (bit (h * 2 ^ 64 + l) j) (bit (k * 2 ^ 64 + m) j)
word_by_word F h l k m a b p q r e f = by_words (λ j. F (bit (h * 2 ^ 64 + l) j) (bit (k * 2 ^ 64 + m) j)) a b r
    (λ j u. f j ∙ sym (ap₂ F (bit_low 64 h l j u) (bit_low 64 k m j u)))
    (λ j. e j ∙ sym (ap₂ F (bit_upper 64 h l j p) (bit_upper 64 k m j q)))

-- size
pub size_words : (h l : ℕ) → h < 2 ^ 64 → l < 2 ^ 64 → (ones l + ones h ≡ length (members (h * 2 ^ 64 + l))) × (ones l + ones h ≡ 0 → (j : ℕ) → bit (h * 2 ^ 64 + l) j ≡ 0)
size_words h l p q =
    let n : ones (h * 2 ^ 64 + l) ≡ ones h + ones l = ones_cat 64 h l q in
    let e : ones l + ones h ≡ ones (h * 2 ^ 64 + l) = add_comm (ones l) (ones h) ∙ sym n in
    (e ∙ size_members (h * 2 ^ 64 + l) (digits_lt p q), λ z. size_none (h * 2 ^ 64 + l) (sym e ∙ z))

-- empty
pub some_low : (h l : ℕ) → 0 < ones l → false ≡ eqb (h * 2 ^ 64 + l) 0
some_low h l p = sym (ne_eqb (h * 2 ^ 64 + l) 0 (λ e. let z : l ≡ 0 = omega (arith, e) in omega (arith, p, ap ones z, ones_zero)))

pub none_low : (h l : ℕ) → ones l ≤ 0 → eqb (ones h) 0 ≡ eqb (h * 2 ^ 64 + l) 0
none_low h l p = go (eqb (ones h) 0) refl
  where
    low_none : l ≡ 0
    low_none = ones_empty l (le-zero p)

    go : (b : Bool) → eqb (ones h) 0 ≡ b → b ≡ eqb (h * 2 ^ 64 + l) 0
    go true e = sym (eq-eqb (h * 2 ^ 64 + l) 0 (let z : h ≡ 0 = ones_empty h (eqb-true (ones h) 0 e) in rw (z, low_none)))
    go false e = sym (ne_eqb (h * 2 ^ 64 + l) 0 (λ q. eqb-false (ones h) 0 e (let z : h ≡ 0 = omega (arith, q) in ap ones z ∙ ones_zero)))

-- what the test says
pub empty_is : {r : Bool} (m : ℕ) → r ≡ eqb m 0 → r ≡ true → m ≡ 0
empty_is m e q = eqb-true m 0 (sym e ∙ q)

pub some_is : {r : Bool} (m : ℕ) → r ≡ eqb m 0 → r ≡ false → ¬ (m ≡ 0)
some_is m e q = eqb-false m 0 (sym e ∙ q)

-- the lowest
pub lowest_low : (h l r : ℕ) → Low 64 l r → Lowest heads_width (h * 2 ^ 64 + l) r
lowest_low h l r (s, m, n) = record { small = omega (arith, s); member = bit_low 64 h l r s ∙ m; none_below = λ j q. bit_low 64 h l j (omega (arith, s, q)) ∙ n j q }

pub high_some : (h l : ℕ) → 0 < h * 2 ^ 64 + l → l ≤ 0 → 0 < h
high_some zero l p z = absurd (omega (arith, p, z))
high_some (suc h) l p z = omega arith

pub lowest_high : (h l r : ℕ) → l ≡ 0 → Low 64 h r → Lowest heads_width (h * 2 ^ 64 + l) (64 + r)
lowest_high h l r z (s, m, n) = record { small = omega (arith, s); member = bit_upper 64 h l r small ∙ m; none_below = none }
  where
    small : l < 2 ^ 64
    small = omega (arith, z)

    none : (j : ℕ) → j < 64 + r → bit (h * 2 ^ 64 + l) j ≡ 0
    none j q = go (ltb j 64) refl
      where
        go : (t : Bool) → ltb j 64 ≡ t → bit (h * 2 ^ 64 + l) j ≡ 0
        go true e = bit_low 64 h l j (ltb-true j 64 e) ∙ ap (λ (n : ℕ). bit n j) z ∙ bit_zero j
        go false e = let g = ltb-false j 64 e in bit_above h l j small g ∙ n (j - 64) (omega (arith, g, q))

-- the numbers below n
pub full_low : (n l : ℕ) → n ≤ 64 → l < 2 ^ 64 → ((j : ℕ) → bit l j ≡ cond (ltb j n) 1 0) → (j : ℕ) → bit (0 * 2 ^ 64 + l) j ≡ cond (ltb j n) 1 0
full_low n l h q e = by_words (λ j. cond (ltb j n) 1 0) 0 l q (λ j g. e j) (λ j. bit_zero j ∙ sym (ap (λ (t : Bool). cond t 1 0) (le-ltb (64 + j) n (omega (arith, h)))))

pub full_high : (n h : ℕ) → 64 < n → ((j : ℕ) → bit h j ≡ cond (ltb j (n - 64)) 1 0) → (j : ℕ) → bit (h * 2 ^ 64 + (2 ^ 64 - 1)) j ≡ cond (ltb j n) 1 0
full_high n h g e = by_words (λ j. cond (ltb j n) 1 0) h (2 ^ 64 - 1) (omega arith)
    (λ j u. bit_below 64 j ∙ ap (λ (t : Bool). cond t 1 0) (lt-ltb j 64 u ∙ sym (lt-ltb j n (omega (arith, g, u)))))
    (λ j. e j ∙ ap (λ (t : Bool). cond t 1 0) (less_above n j (omega (arith, g))))

-- the numbers from low to high: those below high + 1 that are not below low
pub bit_between : (m n a b r : ℕ) → m ≤ n → ((j : ℕ) → bit a j ≡ cond (ltb j (n + 1)) 1 0) → ((j : ℕ) → bit b j ≡ cond (ltb j m) 1 0) → ((j : ℕ) → bit r j ≡ cond (eqb (bit b j) 1) 0 (bit a j))
    → (j : ℕ) → bit r j ≡ cond (leb m j && leb j n) 1 0
bit_between m n a b r h e f g j = g j ∙ ap₂ (λ (x y : ℕ). cond (eqb x 1) 0 y) (f j) (e j) ∙ go (ltb j m) refl (ltb j (n + 1)) refl
  where
    go : (t : Bool) → ltb j m ≡ t → (u : Bool) → ltb j (n + 1) ≡ u → ◌≡◌ {A = ℕ} (cond (eqb (cond t 1 0) 1) 0 (cond u 1 0)) (cond (leb m j && leb j n) 1 0)
    go true p u q = rw (lt-leb m j (ltb-true j m p))
    go false p true q = rw (le-leb m j (ltb-false j m p), le-leb j n (omega (arith, ltb-true j (n + 1) q)))
    go false p false q = rw (le-leb m j (ltb-false j m p), lt-leb j n (omega (arith, ltb-false j (n + 1) q)))

-- one less: half the number
pub lowered_fits : (h l : ℕ) → l < 2 ^ 64 → l / 2 + h % 2 * 2 ^ 63 < 2 ^ 64
lowered_fits h l q = let x : h % 2 ≤ 1 = omega arith in let y : l / 2 < 2 ^ 63 = omega (arith, q) in omega (arith, x, y)

pub bit_lowered : (h l j : ℕ) → bit (h / 2 * 2 ^ 64 + (l / 2 + h % 2 * 2 ^ 63)) j ≡ bit (h * 2 ^ 64 + l) (j + 1)
unfolding bit
bit_lowered h l j =
    let e : h / 2 * 2 ^ 64 + (l / 2 + h % 2 * 2 ^ 63) ≡ (h * 2 ^ 64 + l) / 2 = omega arith in
    let n : j + 1 ≡ suc j = omega arith in
    ap (λ (m : ℕ). bit m j) e ∙ ap (bit (h * 2 ^ 64 + l)) (sym n)

-- just one of two bits
one_bit : (x y : ℕ) → x < 2 → y < 2 → max (cond (eqb y 1) 0 x) (cond (eqb x 1) 0 y) ≡ cond (eqb x y) 0 1
one_bit zero zero p q = refl
one_bit zero (suc zero) p q = refl
one_bit zero (suc (suc y)) p q = absurd (omega arith)
one_bit (suc zero) zero p q = refl
one_bit (suc zero) (suc zero) p q = refl
one_bit (suc zero) (suc (suc y)) p q = absurd (omega arith)
one_bit (suc (suc x)) y p q = absurd (omega arith)

pub bit_edge : (s b c d r : ℕ) → ((j : ℕ) → bit b j ≡ bit s (j + 1)) → ((j : ℕ) → bit c j ≡ cond (eqb (bit b j) 1) 0 (bit s j)) → ((j : ℕ) → bit d j ≡ cond (eqb (bit s j) 1) 0 (bit b j)) → ((j : ℕ) → bit r j ≡ max (bit c j) (bit d j))
    → (j : ℕ) → bit r j ≡ cond (eqb (bit s j) (bit s (j + 1))) 0 1
bit_edge s b c d r e f g h j = h j ∙ ap₂ max (f j) (g j) ∙ one_bit (bit s j) (bit b j) (bit_lt s j) (bit_lt b j) ∙ ap (λ (x : ℕ). cond (eqb (bit s j) x) 0 1) (e j)
