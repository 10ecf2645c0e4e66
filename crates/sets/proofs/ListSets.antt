-- Sets of the numbers of a list: which bits they have, and what their operations are on the lists.
use mathlib.Core.Path.{◌≡◌, refl, ap, sym, ◌∙◌, ap₂}
use mathlib.Core.List.{[], ◌∷◌, List, ◌++◌}
use mathlib.Core.Bool.{Bool, true, false, cond, not, ◌&&◌, ◌||◌}
use Prim.Native.Nat.{ℕ, zero, suc, min, max, ◌<◌, ◌^◌, ◌*◌, ◌+◌, ◌-◌, ◌≤◌}
use borrow.Author.Tests.{eq-eqb, ne_eqb, ltb-true, ltb-false}
use native.Mathlib.Nat.{pow-suc, mod-eq_of_lt, one-mul}
use native.Mathlib.Omega.{arith}
use lib.Bits.{bit_or, and_mask, and_shifted, and_comm, or_zero_r, or_zero_l, or_lt}
use lib.Dec.{eqb, ltb}
use lib.ListN.{length}
use lib.Pow.{pow_mono, pow-lt}
use Rattle.signature.specs.Limits.{heads_limit}
use Rattle.signature.specs.Lists.{memb, keep}
use Rattle.signature.proofs.Members.{memb_keep}
use Rattle.signature.proofs.Tests.{eqb_eq, eqb_ne, eqb_self, true≢false}
use Rattle.sets.specs.Set.{heads_width, bit, members, all_set, union, intersection, set_of, Within}
use Rattle.sets.proofs.SetLaws.{heads_wide, size_some, bit_zero, bit_of_and, bit_of_or, bit_one_same, bit_one_other, bit_ext}

abbrev pub one_if : Bool → ℕ
one_if true = 1
one_if false = 0

below_pow : (n : ℕ) → n < 2 ^ n
below_pow zero = omega arith
below_pow (suc n) = let e : 2 ^ suc n ≡ 2 ^ n * 2 = pow-suc 2 n in omega (arith, below_pow n)

-- two sets with the same members are one, however wide
pub same_bits : (a b : ℕ) → ((i : ℕ) → bit a i ≡ bit b i) → a ≡ b
same_bits a b f = bit_ext (a + b) a b (omega (arith, below_pow a, pow_mono {i = a} {j = a + b} (omega arith))) (omega (arith, below_pow b, pow_mono {i = b} {j = a + b} (omega arith))) (λ i _. f i)

pub no_members : (s : ℕ) → ((i : ℕ) → bit s i ≡ 0) → s ≡ 0
no_members s f = same_bits s 0 (λ i. f i ∙ sym (bit_zero i))

-- the test of a size is that of the set
pub size_test : (s n : ℕ) → (n ≡ length (members s)) × (n ≡ 0 → (i : ℕ) → bit s i ≡ 0) → eqb n 0 ≡ eqb s 0
size_test s n (e, f) = go (eqb n 0) refl
  where
    go : (t : Bool) → eqb n 0 ≡ t → t ≡ eqb s 0
    go true q = sym (eq-eqb s 0 (no_members s (f (eqb_eq n 0 q))))
    go false q = sym (ne_eqb s 0 (size_some s n e (eqb_ne n 0 q)))

-- a set with the members of either, of both
pub union_is : (r a b : ℕ) → ((i : ℕ) → bit r i ≡ max (bit a i) (bit b i)) → r ≡ union a b
union_is r a b h = same_bits _ _ (λ i. h i ∙ sym (bit_of_or a b i))

pub intersection_is : (r a b : ℕ) → ((i : ℕ) → bit r i ≡ min (bit a i) (bit b i)) → r ≡ intersection a b
intersection_is r a b h = same_bits _ _ (λ i. h i ∙ sym (bit_of_and a b i))

or_assoc : (a b c : ℕ) → bit_or (bit_or a b) c ≡ bit_or a (bit_or b c)
or_assoc a b c = same_bits _ _ (λ i. simp bit_of_or (omega arith))

pub set_nil : (f : ℕ) → set_of f [] ≡ 0
unfolding set_of
set_nil f = refl

pub set_one : (f c : ℕ) → set_of f (c ∷ []) ≡ 2 ^ (c - f)
unfolding set_of
set_one f c = or_zero_r (2 ^ (c - f))

pub set_append : (f : ℕ) (xs ys : List ℕ) → set_of f (xs ++ ys) ≡ union (set_of f xs) (set_of f ys)
unfolding set_of
set_append f [] ys = sym (or_zero_l (set_of f ys))
set_append f (x ∷ xs) ys = ap (bit_or (2 ^ (x - f))) (set_append f xs ys) ∙ sym (or_assoc (2 ^ (x - f)) (set_of f xs) (set_of f ys))

one_if_le : (b : Bool) → one_if b ≤ 1
one_if_le true = omega arith
one_if_le false = omega arith

pub bit_set_of : (f i : ℕ) (cs : List ℕ) → Within f cs → bit (set_of f cs) i ≡ one_if (memb (f + i) cs)
unfolding set_of
bit_set_of f i [] w = bit_zero i
bit_set_of f i (c ∷ cs) w = rw (bit_of_or, bit_set_of f i cs w.2) (go (eqb (f + i) c) refl)
  where
    go : (b : Bool) → eqb (f + i) c ≡ b → max (bit (2 ^ (c - f)) i) (one_if (memb (f + i) cs)) ≡ one_if (b || memb (f + i) cs)
    go true e =
        let q : c - f ≡ i = omega (arith, eqb_eq (f + i) c e) in
        rw (q, bit_one_same i) (omega (arith, one_if_le (memb (f + i) cs)))
    go false e = rw (bit_one_other (c - f) i (λ z. eqb_ne (f + i) c e (omega (arith, z, w.0)))) (omega arith)

pub within_keep : (f : ℕ) (g : ℕ → Bool) (cs : List ℕ) → Within f cs → Within f (keep g cs)
within_keep f g [] w = tt
within_keep f g (c ∷ cs) w = go (g c) (within_keep f g cs w.2)
  where
    go : (b : Bool) → Within f (keep g cs) → Within f (cond b (c ∷ keep g cs) (keep g cs))
    go true i = (w.0, w.1, i)
    go false i = i

-- a head of the list is one of those
pub within_one : (f d : ℕ) (hs : List ℕ) → Within f hs → memb d hs ≡ true → (f ≤ d) × (d < f + heads_limit)
within_one f d [] w h = true≢false (sym h)
within_one f d (c ∷ hs) w h = go (eqb d c) refl (λ q. within_one f d hs w.2 q)
  where
    go : (b : Bool) → eqb d c ≡ b → (memb d hs ≡ true → (f ≤ d) × (d < f + heads_limit)) → (f ≤ d) × (d < f + heads_limit)
    go true q r = let z = eqb_eq d c q in (omega (arith, z, w.0), omega (arith, z, w.1))
    go false q r = r (rw q at h)

min_one : (a b : Bool) → min (one_if a) (one_if b) ≡ one_if (a && b)
min_one true true = refl
min_one true false = refl
min_one false true = refl
min_one false false = refl

-- the set of the heads that pass a test
pub set_keep : (f : ℕ) (g : ℕ → Bool) (hs : List ℕ) (r : ℕ) → Within f hs → ((i : ℕ) → bit r i ≡ one_if (memb (f + i) hs && g (f + i))) → r ≡ set_of f (keep g hs)
set_keep f g hs r w h = same_bits _ _ (λ i. h i ∙ ap one_if (sym (memb_keep g (f + i) hs)) ∙ sym (bit_set_of f i (keep g hs) (within_keep f g hs w)))

-- the members of both
pub set_meet : (f : ℕ) (cs ds : List ℕ) → Within f cs → Within f ds → intersection (set_of f cs) (set_of f ds) ≡ set_of f (keep (λ c. memb c ds) cs)
set_meet f cs ds w z = set_keep f (λ c. memb c ds) cs _ w (λ i.
    bit_of_and (set_of f cs) (set_of f ds) i
    ∙ ap₂ min (bit_set_of f i cs w) (bit_set_of f i ds z)
    ∙ min_one (memb (f + i) cs) (memb (f + i) ds))

-- no set of a member is empty
pub set_some : (f c : ℕ) (cs : List ℕ) → Within f (c ∷ cs) → ¬ (set_of f (c ∷ cs) ≡ 0)
set_some f c cs w e =
    let a : bit (set_of f (c ∷ cs)) (c - f) ≡ one_if (memb (f + (c - f)) (c ∷ cs)) = bit_set_of f (c - f) (c ∷ cs) w in
    let q : f + (c - f) ≡ c = omega (arith, w.0) in
    let one : memb (f + (c - f)) (c ∷ cs) ≡ true = rw (q, eqb_self c) in
    let z : ◌≡◌ {A = ℕ} 0 1 = sym (bit_zero (c - f)) ∙ ap (λ (n : ℕ). bit n (c - f)) (sym e) ∙ a ∙ ap one_if one in
    omega (arith, z)

pub set_lt : (f : ℕ) (cs : List ℕ) → Within f cs → set_of f cs < 2 ^ heads_limit
unfolding set_of
set_lt f [] w = omega arith
set_lt f (c ∷ cs) w = or_lt heads_limit (2 ^ (c - f)) (set_of f cs) (pow-lt {i = c - f} {j = heads_limit} (omega (arith, w.0, w.1))) (set_lt f cs w.2)

-- the set of all heads but one
not_here : (f c i : ℕ) → f ≤ c → (b : Bool) → cond (eqb i (c - f)) 0 (one_if b) ≡ one_if (b && not (eqb c (f + i)))
not_here f c i l b = go (eqb c (f + i)) refl
  where
    keeps : (b : Bool) → one_if b ≡ one_if (b && true)
    keeps true = refl
    keeps false = refl

    drops : (b : Bool) → 0 ≡ one_if (b && false)
    drops true = refl
    drops false = refl

    go : (d : Bool) → eqb c (f + i) ≡ d → cond (eqb i (c - f)) 0 (one_if b) ≡ one_if (b && not d)
    go true e = let z : c - f ≡ i = omega (arith, eqb_eq c (f + i) e) in rw (z, eqb_self i) (drops b)
    go false e = rw (ne_eqb i (c - f) (λ z. eqb_ne c (f + i) e (omega (arith, z, l)))) (keeps b)

pub all_but : (f c : ℕ) (hs : List ℕ) (full rest : ℕ) → Within f hs → f ≤ c → full ≡ set_of f hs → ((i : ℕ) → bit rest i ≡ cond (eqb i (c - f)) 0 (bit full i)) → rest ≡ set_of f (keep (λ d. not (eqb c d)) hs)
all_but f c hs full rest w l e h = set_keep f (λ d. not (eqb c d)) hs rest w (λ i.
    h i
    ∙ ap (λ (n : ℕ). cond (eqb i (c - f)) 0 (bit n i)) e
    ∙ ap (λ (n : ℕ). cond (eqb i (c - f)) 0 n) (bit_set_of f i hs w)
    ∙ not_here f c i l (memb (f + i) hs))

-- the set of one head
pub only_one : (f c i r : ℕ) → i ≡ c - f → ((j : ℕ) → bit r j ≡ cond (eqb j i) 1 0) → r ≡ set_of f (c ∷ [])
only_one f c i r q h = same_bits _ _ (λ j. h j ∙ go j (eqb j i) refl ∙ ap (λ (n : ℕ). bit n j) (ap (λ (n : ℕ). 2 ^ n) q ∙ sym (set_one f c)))
  where
    go : (j : ℕ) (t : Bool) → eqb j i ≡ t → cond t 1 0 ≡ bit (2 ^ i) j
    go j true e = rw (eqb_eq j i e) (sym (bit_one_same i))
    go j false e = sym (bit_one_other i j (eqb_ne j i e))

-- the members of a set among all
pub among_all : (m : ℕ) → m < 2 ^ heads_limit → intersection m all_set ≡ m
among_all m h = and_mask m heads_width ∙ mod-eq_of_lt (heads_wide m h)

-- sets of one member that share it
powers_apart : (i j : ℕ) → i < j → intersection (2 ^ j) (2 ^ i) ≡ 0
powers_apart i j h = rw (← one-mul (2 ^ j)) (and_shifted 1 j (2 ^ i) (pow-lt h))

pub powers_meet : (i j : ℕ) → ¬ (intersection (2 ^ i) (2 ^ j) ≡ 0) → i ≡ j
powers_meet i j h = go (ltb i j) refl (ltb j i) refl
  where
    go : (b : Bool) → ltb i j ≡ b → (d : Bool) → ltb j i ≡ d → i ≡ j
    go true p d q = absurd (h (and_comm (2 ^ i) (2 ^ j) ∙ powers_apart i j (ltb-true i j p)))
    go false p true q = absurd (h (powers_apart j i (ltb-true j i q)))
    go false p false q = let a : j ≤ i = ltb-false i j p in let b : i ≤ j = ltb-false j i q in omega arith
