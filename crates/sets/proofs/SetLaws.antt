-- Sets of numbers, by their bits.
use mathlib.Core.Path.{◌≡◌, refl, sym, ap, ◌∙◌}
use mathlib.Core.Bool.{Bool, true, false, cond, ◌||◌}
use mathlib.Core.List.{◌∷◌}
use Prim.Native.Nat.{ℕ, zero, suc, ◌+◌, ◌-◌, ◌*◌, ◌/◌, ◌%◌, ◌^◌, ◌≤◌, ◌<◌, min, max, suc-le-suc}
use native.Mathlib.Nat.{pow-suc, add-zero, zero-add, add-suc, suc-add, one-mul, le_trans, lt_trans}
use native.Mathlib.Numerals.{one-add}
use native.Mathlib.Omega.{arith}
use lib.Arith.{digits_mod, bin_ind}
use lib.Pow.{pow_pos, pow-lt, pow_mono, shl_exact, shr-shr}
use lib.Bits.{bit_and, bit_or, and_step, or_step, and_shr, or_shr}
use lib.Count.{ones, ones_step, count_trailing_zeros, under}
use lib.Dec.{eqb, ltb}
use lib.ListN.{length}
use borrow.Author.Tests.{eq-eqb, ne_eqb, eqb-true, eqb-false, ltb-true, ltb-false}
use Rattle.signature.specs.Lists.{keep, count_up, memb}
use Rattle.signature.specs.Limits.{heads_limit}
use Rattle.sets.specs.Set.{bit, members, set_limit, heads_width}
use Rattle.signature.proofs.Members.{memb_keep}

-- a bit is 0 or 1
pub bit_lt : (s i : ℕ) → bit s i < 2
unfolding bit
bit_lt s zero = omega arith
bit_lt s (suc i) = bit_lt (s / 2) i

-- bit i as the code takes it
pub bit_shr : (s i : ℕ) → s / 2 ^ i % 2 ≡ bit s i
unfolding bit
bit_shr s zero = ap (λ (n : ℕ). n % 2) (omega arith)
bit_shr s (suc i) = ap (λ (n : ℕ). s / 2 ^ n % 2) (sym (one-add i)) ∙ ap (λ (n : ℕ). n % 2) (sym (shr-shr s 1 i)) ∙ bit_shr (s / 2) i

pub bit_zero : (i : ℕ) → bit 0 i ≡ 0
unfolding bit
bit_zero zero = refl
bit_zero (suc i) = bit_zero i

-- the digits of a bitwise result
min_lt : (a b : ℕ) → min (a % 2) (b % 2) < 2
min_lt a b = omega arith

max_lt : (a b : ℕ) → max (a % 2) (b % 2) < 2
max_lt a b = omega arith

pub bit_of_and : (a b i : ℕ) → bit (bit_and a b) i ≡ min (bit a i) (bit b i)
unfolding bit
bit_of_and a b zero = rw and_step (digits_mod (bit_and (a / 2) (b / 2)) (min_lt a b))
bit_of_and a b (suc i) = rw (and_shr a b 1) (bit_of_and (a / 2) (b / 2) i)

pub bit_of_or : (a b i : ℕ) → bit (bit_or a b) i ≡ max (bit a i) (bit b i)
unfolding bit
bit_of_or a b zero = rw or_step (digits_mod (bit_or (a / 2) (b / 2)) (max_lt a b))
bit_of_or a b (suc i) = rw (or_shr a b 1) (bit_of_or (a / 2) (b / 2) i)

-- the set of one member
half_pow : (k : ℕ) → 2 ^ suc k / 2 ≡ 2 ^ k
half_pow k = rw (pow-suc 2 k) (omega arith)

pub bit_one_same : (k : ℕ) → bit (2 ^ k) k ≡ 1
unfolding bit
bit_one_same zero = refl
bit_one_same (suc k) = rw (half_pow k) (bit_one_same k)

pub bit_one_other : (k i : ℕ) → (i ≡ k → ⊥) → bit (2 ^ k) i ≡ 0
unfolding bit
bit_one_other zero zero h = absurd (h refl)
bit_one_other zero (suc i) h = bit_zero i
bit_one_other (suc k) zero h = rw (pow-suc 2 k) (omega arith)
bit_one_other (suc k) (suc i) h = rw (half_pow k) (bit_one_other k i (λ e. h (ap suc e)))

-- as the code writes it
pub one_shl : (i : ℕ) → i < 64 → (1 * 2 ^ i) % 2 ^ 64 ≡ 2 ^ i
one_shl i h = shl_exact {a = 1} 1 i 64 (omega arith) (omega arith) ∙ one-mul (2 ^ i)

pub bit_only : (i j : ℕ) → i < 64 → bit ((1 * 2 ^ i) % 2 ^ 64) j ≡ cond (eqb j i) 1 0
bit_only i j h = rw (one_shl i h) (go (eqb j i) refl)
  where
    go : (t : Bool) → eqb j i ≡ t → bit (2 ^ i) j ≡ cond t 1 0
    go true e = rw (eqb-true j i e) (bit_one_same i)
    go false e = bit_one_other i j (eqb-false j i e)

-- all but the members of a, below k
pub bit_not : (k a i : ℕ) → a < 2 ^ k → i < k → bit (2 ^ k - 1 - a) i ≡ 1 - bit a i
unfolding bit
bit_not zero a i h l = absurd (omega arith)
bit_not (suc k) a zero h l = let e : 2 ^ suc k ≡ 2 ^ k * 2 = pow-suc 2 k in omega (arith, pow_pos k)
bit_not (suc k) a (suc i) h l =
    let e : 2 ^ suc k ≡ 2 ^ k * 2 = pow-suc 2 k in
    let half : (2 ^ suc k - 1 - a) / 2 ≡ 2 ^ k - 1 - a / 2 = omega (arith, pow_pos k) in
    rw half (bit_not k (a / 2) i (omega arith) (omega arith))

-- two sets with the same members are one
pub bit_ext : (k a b : ℕ) → a < 2 ^ k → b < 2 ^ k → ((i : ℕ) → i < k → bit a i ≡ bit b i) → a ≡ b
unfolding bit
bit_ext zero a b h g f = omega arith
bit_ext (suc k) a b h g f =
    let e : 2 ^ suc k ≡ 2 ^ k * 2 = pow-suc 2 k in
    let low : a % 2 ≡ b % 2 = f 0 (omega arith) in
    let rest : a / 2 ≡ b / 2 = bit_ext k (a / 2) (b / 2) (omega arith) (omega arith) (λ i l. f (suc i) (omega arith)) in
    omega arith

-- no member is at or above the length
pub bit_high : (k a i : ℕ) → a < 2 ^ k → k ≤ i → bit a i ≡ 0
unfolding bit
bit_high zero a i h l = let z : a ≡ 0 = omega arith in rw z (bit_zero i)
bit_high (suc k) a zero h l = absurd (omega arith)
bit_high (suc k) a (suc i) h l = let e : 2 ^ suc k ≡ 2 ^ k * 2 = pow-suc 2 k in bit_high k (a / 2) i (omega arith) (omega arith)

-- a set is empty where its count of ones is 0
pub ones_empty : (a : ℕ) → ones a ≡ 0 → a ≡ 0
ones_empty = bin_ind (λ (n : ℕ). ones n ≡ 0 → n ≡ 0) (λ e. refl) (λ n ih e.
    let s : ones n ≡ n % 2 + ones (n / 2) = ones_step n in
    let z : n / 2 ≡ 0 = ih (omega arith) in
    omega arith)

pub ones_zero : ones 0 ≡ 0
unfolding ones
ones_zero = refl

-- the lowest member: below k, a member, and none below it
abbrev pub Low : ℕ → ℕ → ℕ → Type 0
Low k a r = (r < k) × (bit a r ≡ 1) × ((j : ℕ) → j < r → bit a j ≡ 0)

low_step : (k a t d : ℕ) → a % 2 ≡ d → 0 < a → (0 < a / 2 → Low k (a / 2) t) → Low (suc k) a (under d t)
unfolding bit
low_step k a t zero e p ih =
    let q = ih (omega arith) in (
      suc-le-suc q.0,
      q.1,
      below,
    )
  where
    below : (j : ℕ) → j < suc t → bit a j ≡ 0
    below zero l = e
    below (suc j) l = (ih (omega arith)).2 j (omega arith)
low_step k a t (suc d) e p ih = (omega arith, omega arith, λ j l. absurd (omega arith))

pub trailing_low : (k a : ℕ) → a < 2 ^ k → 0 < a → Low k a (count_trailing_zeros k a)
unfolding count_trailing_zeros
trailing_low zero a h p = absurd (omega arith)
trailing_low (suc k) a h p =
    let e : 2 ^ suc k ≡ 2 ^ k * 2 = pow-suc 2 k in
    low_step k a (count_trailing_zeros k (a / 2)) (a % 2) refl p (λ q. trailing_low k (a / 2) (omega arith) q)

-- one member more, one member less, as the code writes them
pub bit_with : (s i j : ℕ) → i < 64 → bit (bit_or s ((1 * 2 ^ i) % 2 ^ 64)) j ≡ cond (eqb j i) 1 (bit s j)
bit_with s i j h = rw (one_shl i h, bit_of_or) (go (eqb j i) refl)
  where
    go : (t : Bool) → eqb j i ≡ t → max (bit s j) (bit (2 ^ i) j) ≡ cond t 1 (bit s j)
    go true e = rw (eqb-true j i e, bit_one_same i) (omega (arith, bit_lt s i))
    go false e = rw (bit_one_other i j (eqb-false j i e)) (omega arith)

pub bit_without : (s i j : ℕ) → s < 2 ^ 64 → i < 64 → bit (bit_and s (2 ^ 64 - 1 - (1 * 2 ^ i) % 2 ^ 64)) j ≡ cond (eqb j i) 0 (bit s j)
bit_without s i j l h = rw (one_shl i h, bit_of_and) (go (ltb j 64) refl (eqb j i) refl)
  where
    go : (u : Bool) → ltb j 64 ≡ u → (t : Bool) → eqb j i ≡ t → min (bit s j) (bit (2 ^ 64 - 1 - 2 ^ i) j) ≡ cond t 0 (bit s j)
    go true f true e =
        let m : j ≡ i = eqb-true j i e in
        rw (bit_not 64 (2 ^ i) j (pow-lt h) (ltb-true j 64 f), m, bit_one_same i) (omega arith)
    go true f false e =
        rw (bit_not 64 (2 ^ i) j (pow-lt h) (ltb-true j 64 f), bit_one_other i j (eqb-false j i e)) (omega (arith, bit_lt s j))
    go false f true e = rw (bit_high 64 s j l (ltb-false j 64 f)) (omega arith)
    go false f false e = rw (bit_high 64 s j l (ltb-false j 64 f)) (omega arith)

-- the members of a that are not in b, as the code writes them
pub bit_minus : (a b j : ℕ) → a < 2 ^ 64 → b < 2 ^ 64 → bit (bit_and a (2 ^ 64 - 1 - b)) j ≡ cond (eqb (bit b j) 1) 0 (bit a j)
bit_minus a b j l m = rw bit_of_and (go (ltb j 64) refl (eqb (bit b j) 1) refl)
  where
    go : (u : Bool) → ltb j 64 ≡ u → (t : Bool) → eqb (bit b j) 1 ≡ t → min (bit a j) (bit (2 ^ 64 - 1 - b) j) ≡ cond t 0 (bit a j)
    go true f true e = rw (bit_not 64 b j m (ltb-true j 64 f), eqb-true (bit b j) 1 e) (omega arith)
    go true f false e =
        let z : bit b j ≡ 0 = let n : bit b j ≡ 1 → ⊥ = eqb-false (bit b j) 1 e in omega (arith, bit_lt b j) in
        rw (bit_not 64 b j m (ltb-true j 64 f), z) (omega (arith, bit_lt a j))
    go false f true e = rw (bit_high 64 a j l (ltb-false j 64 f)) (omega arith)
    go false f false e = rw (bit_high 64 a j l (ltb-false j 64 f)) (omega arith)

-- one less: all members below the lowest come, and that one goes
bits_less : (b s j : ℕ) → bit s b ≡ 1 → ((i : ℕ) → i < b → bit s i ≡ 0) → min (bit s j) (bit (s - 1) j) ≡ cond (eqb j b) 0 (bit s j)
unfolding bit
bits_less zero s zero m n = omega arith
bits_less zero s (suc j) m n = let e : (s - 1) / 2 ≡ s / 2 = omega arith in rw (e, ne_eqb (suc j) 0 (λ z. omega arith)) (omega arith)
bits_less (suc b) s zero m n = rw (ne_eqb 0 (suc b) (λ z. omega arith)) (omega (arith, n 0 (omega arith)))
bits_less (suc b) s (suc j) m n = rw e (bits_less b (s / 2) j m (λ i l. n (suc i) (omega arith)) ∙ ap (λ (t : Bool). cond t 0 (bit (s / 2) j)) (same (eqb j b) refl))
  where
    some : 0 < s / 2
    some = go (s / 2) m
      where
        go : (h : ℕ) → bit h b ≡ 1 → 0 < h
        go zero k = absurd (omega (arith, bit_zero b))
        go (suc h) k = omega arith

    e : (s - 1) / 2 ≡ s / 2 - 1
    e = omega (arith, some, n 0 (omega arith))

    same : (t : Bool) → eqb j b ≡ t → t ≡ eqb (suc j) (suc b)
    same true i = sym (eq-eqb (suc j) (suc b) (ap suc (eqb-true j b i)))
    same false i = sym (ne_eqb (suc j) (suc b) (λ z. eqb-false j b i (omega arith)))

pub bit_rest : (s b j : ℕ) → bit s b ≡ 1 → ((i : ℕ) → i < b → bit s i ≡ 0) → bit (bit_and s (s - 1)) j ≡ cond (eqb j b) 0 (bit s j)
bit_rest s b j m n = rw bit_of_and (bits_less b s j m n)

-- b is a without its member i: one less
pub ones_less : (k i a b : ℕ) → a < 2 ^ k → b < 2 ^ k → bit a i ≡ 1 → bit b i ≡ 0 → ((j : ℕ) → (j ≡ i → ⊥) → bit b j ≡ bit a j) → ones a ≡ 1 + ones b
unfolding bit
ones_less zero i a b h g e f r =
    let z : a ≡ 0 = omega arith in
    absurd (omega (arith, sym (bit_zero i), rw z at e))
ones_less (suc k) zero a b h g e f r =
    let p : 2 ^ suc k ≡ 2 ^ k * 2 = pow-suc 2 k in
    let same : b / 2 ≡ a / 2 = bit_ext k (b / 2) (a / 2) (omega arith) (omega arith) (λ j l. r (suc j) (λ q. omega arith)) in
    rw (ones_step a, ones_step b, same) (omega arith)
ones_less (suc k) (suc i) a b h g e f r =
    let p : 2 ^ suc k ≡ 2 ^ k * 2 = pow-suc 2 k in
    let low : b % 2 ≡ a % 2 = r 0 (λ q. omega arith) in
    let rest : ones (a / 2) ≡ 1 + ones (b / 2) = ones_less k i (a / 2) (b / 2) (omega arith) (omega arith) e f (λ j n. r (suc j) (λ q. n (omega arith))) in
    rw (ones_step a, ones_step b, low, rest) (omega arith)

-- the same from what `without` ensures
pub ones_without : (a b i : ℕ) → a < 2 ^ 64 → b < 2 ^ 64 → bit a i ≡ 1 → ((j : ℕ) → bit b j ≡ cond (eqb j i) 0 (bit a j)) → ones a ≡ 1 + ones b
ones_without a b i h g e r =
    ones_less 64 i a b h g e (rw (eq-eqb i i refl) at (r i)) (λ j n. rw (ne_eqb j i n) at (r j))

-- size

ones_from : (k s : ℕ) → s < 2 ^ k → (f : ℕ → ℕ) (i : ℕ) → ((j : ℕ) → bit s j ≡ f (i + j)) → length (keep (λ j. eqb (f j) 1) (count_up i k)) ≡ ones s
unfolding bit
ones_from zero s h f i g = let z : s ≡ 0 = omega arith in rw z (sym ones_zero)
ones_from (suc k) s h f i g =
    let e : 2 ^ suc k ≡ 2 ^ k * 2 = pow-suc 2 k in
    let low : s % 2 ≡ f i = g 0 ∙ ap f (add-zero i) in
    let rest : length (keep (λ j. eqb (f j) 1) (count_up (suc i) k)) ≡ ones (s / 2) = ones_from k (s / 2) (omega arith) f (suc i) (λ j. g (suc j) ∙ ap f (add-suc i j ∙ sym (suc-add i j))) in
    go (eqb (f i) 1) refl low rest
  where
    go : (t : Bool) → eqb (f i) 1 ≡ t → s % 2 ≡ f i → length (keep (λ j. eqb (f j) 1) (count_up (suc i) k)) ≡ ones (s / 2)
        → length (cond t (i ∷ keep (λ j. eqb (f j) 1) (count_up (suc i) k)) (keep (λ j. eqb (f j) 1) (count_up (suc i) k))) ≡ ones s
    go true q low rest = rw (ones_step s) (omega (arith, eqb-true (f i) 1 q))
    go false q low rest = let n : f i ≡ 1 → ⊥ = eqb-false (f i) 1 q in rw (ones_step s) (omega arith)

-- the count of ones is the number of members
pub size_members : (s : ℕ) → s < 2 ^ heads_width → ones s ≡ length (members s)
unfolding members
size_members s h = sym (ones_from heads_width s h (bit s) 0 (λ j. ap (bit s) (sym (zero-add j))))

-- a set in one word, or of heads, is below this
pub word_wide : (s : ℕ) → s < 2 ^ set_limit → s < 2 ^ heads_width
word_wide s h = lt_trans h (pow-lt {i = set_limit} {j = heads_width} (omega arith))

pub heads_wide : (s : ℕ) → s < 2 ^ heads_limit → s < 2 ^ heads_width
heads_wide s h = lt_trans h (pow-lt {i = heads_limit} {j = heads_width} (omega arith))

-- a member is one of the list
counted : (i n c : ℕ) → i ≤ c → c < i + n → memb c (count_up i n) ≡ true
counted i zero c l h = absurd (omega arith)
counted i (suc n) c l h = go (eqb c i) refl (λ m. counted (suc i) n c m (omega arith))
  where
    go : (t : Bool) → eqb c i ≡ t → (suc i ≤ c → memb c (count_up (suc i) n) ≡ true) → (t || memb c (count_up (suc i) n)) ≡ true
    go true e f = refl
    go false e f = let d : c ≡ i → ⊥ = eqb-false c i e in f (omega arith)

pub members_has : (s i : ℕ) → i < heads_width → memb i (members s) ≡ eqb (bit s i) 1
unfolding members
members_has s i h = memb_keep (λ j. eqb (bit s j) 1) i (count_up 0 heads_width) ∙ rw (counted 0 heads_width i (omega arith) (omega arith))

-- the numbers below n

pub bit_below : (n j : ℕ) → bit (2 ^ n - 1) j ≡ cond (ltb j n) 1 0
bit_below n j = go (ltb j n) refl
  where
    go : (t : Bool) → ltb j n ≡ t → bit (2 ^ n - 1) j ≡ cond t 1 0
    go true e =
        let z : 2 ^ n - 1 - 0 ≡ 2 ^ n - 1 = omega arith in
        rw (← z) (bit_not n 0 j (pow_pos n) (ltb-true j n e) ∙ rw (bit_zero j))
    go false e = bit_high n (2 ^ n - 1) j (omega (arith, pow_pos n)) (ltb-false j n e)

pub bit_all : (n j : ℕ) → n ≡ set_limit → bit (2 ^ 64 - 1) j ≡ cond (ltb j n) 1 0
bit_all n j e = rw e (bit_below 64 j)

pub bit_full : (n j : ℕ) → n < set_limit → bit ((1 * 2 ^ n) % 2 ^ 64 - 1) j ≡ cond (ltb j n) 1 0
bit_full n j h = rw (one_shl n h) (bit_below n j)

-- sets below 2 ^ 64

pub bits_above : (s i : ℕ) → s < 2 ^ 64 → set_limit ≤ i → bit s i ≡ 0
bits_above s i h l = bit_high 64 s i h l

pub same_set : (a b : ℕ) → a < 2 ^ 64 → b < 2 ^ 64 → ((i : ℕ) → i < set_limit → bit a i ≡ bit b i) → a ≡ b
same_set a b h g f = bit_ext 64 a b h g f

-- a set with no member is empty
pub no_member : (s : ℕ) → s < 2 ^ 64 → ((i : ℕ) → i < set_limit → bit s i ≡ 0) → s ≡ 0
no_member s h f = bit_ext 64 s 0 h (omega arith) (λ i l. f i l ∙ sym (bit_zero i))

-- a set is empty where its size is 0, and only there
pub size_none : (s : ℕ) → ones s ≡ 0 → (i : ℕ) → bit s i ≡ 0
size_none s e i = ap (λ (n : ℕ). bit n i) (ones_empty s e) ∙ bit_zero i

size_empty : length (members 0) ≡ 0
size_empty = sym (size_members 0 (pow_pos heads_width)) ∙ ones_zero

pub size_some : (s n : ℕ) → n ≡ length (members s) → (n ≡ 0 → ⊥) → s ≡ 0 → ⊥
size_some s n e f z = f (e ∙ ap (λ (m : ℕ). length (members m)) z ∙ size_empty)

-- a set whose members are among those of another has no more of them, and is the other where it has as many
ones_among : (k a b : ℕ) → a < 2 ^ k → b < 2 ^ k → ((i : ℕ) → bit a i ≤ bit b i) → (ones a ≤ ones b) × (ones a ≡ ones b → a ≡ b)
unfolding bit
ones_among zero a b h g f =
    let x : a ≡ 0 = omega arith in
    let y : b ≡ 0 = omega arith in
    rw (x, y) (omega arith, λ e. refl)
ones_among (suc k) a b h g f =
    let p : 2 ^ suc k ≡ 2 ^ k * 2 = pow-suc 2 k in
    let low : a % 2 ≤ b % 2 = f 0 in
    let rest = ones_among k (a / 2) (b / 2) (omega arith) (omega arith) (λ i. f (suc i)) in
    let x = ones_step a in
    let y = ones_step b in (
      omega (arith, rest.0),
      λ e. let z : a / 2 ≡ b / 2 = rest.1 (omega (arith, rest.0)) in omega (arith, rest.0, z, ap ones z),
    )

pub size_among : (a b : ℕ) → a < 2 ^ heads_limit → b < 2 ^ heads_limit → ((i : ℕ) → bit a i ≤ bit b i) → length (members a) ≡ length (members b) → a ≡ b
size_among a b h g f e = (ones_among heads_limit a b h g f).1 (size_members a (heads_wide a h) ∙ e ∙ sym (size_members b (heads_wide b g)))

-- there are n numbers below n
ones_below : (n : ℕ) → ones (2 ^ n - 1) ≡ n
ones_below zero = ones_zero
ones_below (suc n) =
    let p : 2 ^ suc n ≡ 2 ^ n * 2 = pow-suc 2 n in
    let half : (2 ^ suc n - 1) / 2 ≡ 2 ^ n - 1 = omega (arith, pow_pos n) in
    let low : (2 ^ suc n - 1) % 2 ≡ 1 = omega (arith, pow_pos n) in
    ones_step (2 ^ suc n - 1) ∙ rw (half, low, ones_below n) (omega arith)

pub size_below : (n : ℕ) → n ≤ heads_width → length (members (2 ^ n - 1)) ≡ n
size_below n h = sym (size_members (2 ^ n - 1) (le_trans (less_one (2 ^ n) (pow_pos n)) (pow_mono {i = n} {j = heads_width} h))) ∙ ones_below n
  where
    less_one : (m : ℕ) → 0 < m → m - 1 < m
    less_one m p = omega arith
