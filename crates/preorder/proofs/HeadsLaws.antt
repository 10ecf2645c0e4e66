-- The heads of a column that have a child, as a set of their numbers.
use mathlib.Core.Path.{◌≡◌, refl, sym, ap, ap₂, ◌∙◌}
use mathlib.Core.List.{List, [], ◌∷◌, map}
use mathlib.Core.Bool.{Bool, true, false, ◌&&◌, not, cond}
use Prim.Native.Nat.{ℕ, zero, suc, ◌+◌, ◌-◌, ◌≤◌, ◌<◌}
use native.Mathlib.Omega.{arith}
use lib.Dec.{eqb, ltb}
use lib.ListN.{length}
use Rattle.signature.specs.Lists.{keep, count_up}
use Rattle.signature.proofs.Booleans.{and_true, and_false}
use Rattle.signature.proofs.Tests.{eqb_eq, eqb_ne, eqb_self, eqb_no, ltb_yes, ltb_no}
use Rattle.sets.specs.Set.{bit, members, heads_width, Lowest}
use Rattle.sets.proofs.SetLaws.{size_some}
use Rattle.preorder.specs.Front.{heads_in}

-- the members from b on
keep_same : (p q : ℕ → Bool) (b n : ℕ) → ((i : ℕ) → b ≤ i → p i ≡ q i) → keep p (count_up b n) ≡ keep q (count_up b n)
keep_same p q b zero h = refl
keep_same p q b (suc n) h = ap₂ (λ c xs. cond c (b ∷ xs) xs) (h b (omega arith)) (keep_same p q (suc b) n (λ i l. h i (omega arith)))

-- without the first of them
module _ (p q : ℕ → Bool) (i : ℕ) (here : p i ≡ true) (out : q i ≡ false) (others : (j : ℕ) → ¬ (j ≡ i) → q j ≡ p j) where
  keep_first : (b n : ℕ) → b ≤ i → i < b + n → ((j : ℕ) → b ≤ j → j < i → p j ≡ false) → keep p (count_up b n) ≡ i ∷ keep q (count_up b n)
  keep_first b zero l m h = absurd (omega arith)
  keep_first b (suc n) l m h = go (eqb b i) refl (λ k. keep_first (suc b) n k (omega arith) (λ j x y. h j (omega arith) y))
    where
      go : (c : Bool) → eqb b i ≡ c → (suc b ≤ i → keep p (count_up (suc b) n) ≡ i ∷ keep q (count_up (suc b) n)) → keep p (count_up b (suc n)) ≡ i ∷ keep q (count_up b (suc n))
      go true e f =
          let z : b ≡ i = eqb_eq b i e in
          rw (z, here, out) (ap (λ xs. i ∷ xs) (keep_same p q (suc i) n (λ j k. sym (others j (λ y. absurd (omega arith))))))
      go false e f =
          let d : ¬ (b ≡ i) = eqb_ne b i e in
          let k : suc b ≤ i = omega (arith, d) in
          rw (others b d, h b (omega arith) (omega arith)) (f k)

members_are : (s : ℕ) → members s ≡ keep (λ i. eqb (bit s i) 1) (count_up 0 heads_width)
unfolding members
members_are s = refl

pub members_next : (s s' i : ℕ) → Lowest heads_width s i → ((j : ℕ) → bit s' j ≡ cond (eqb j i) 0 (bit s j)) → members s ≡ i ∷ members s'
members_next s s' i w h =
    members_are s
    ∙ keep_first (λ j. eqb (bit s j) 1) (λ j. eqb (bit s' j) 1) i (rw w.member) (rw (h i, eqb_self i)) (λ j d. let q : cond (eqb j i) 0 (bit s j) ≡ bit s j = rw (eqb_no j i d) in ap (λ (m : ℕ). eqb m 1) (h j ∙ q)) 0 heads_width (omega arith) (omega (arith, w.small)) (λ j k l. rw (w.none_below j l))
    ∙ ap (λ xs. i ∷ xs) (sym (members_are s'))

-- the members without the lowest
abbrev pub rest_of : ℕ → ℕ → List ℕ
rest_of s i = keep (λ j. eqb (bit s j) 1 && not (eqb j i)) (count_up 0 heads_width)

pub members_first : (s i : ℕ) → Lowest heads_width s i → members s ≡ i ∷ rest_of s i
members_first s i w =
    members_are s
    ∙ keep_first (λ j. eqb (bit s j) 1) (λ j. eqb (bit s j) 1 && not (eqb j i)) i (rw w.member) (rw (eqb_self i) (and_false (eqb (bit s i) 1))) (λ j d. rw (eqb_no j i d) (and_true (eqb (bit s j) 1))) 0 heads_width (omega arith) (omega (arith, w.small)) (λ j k l. rw (w.none_below j l))

-- numbers of heads as heads
module _ (f : ℕ) (p q : ℕ → Bool) (c : ℕ) (same : (j : ℕ) → j < c → q j ≡ p (f + j)) (out : (j : ℕ) → c ≤ j → q j ≡ false) where
  none_kept : (b n : ℕ) → c ≤ b → keep q (count_up b n) ≡ []
  none_kept b zero l = refl
  none_kept b (suc n) l = rw (out b l) (none_kept (suc b) n (omega arith))

  shifted : (n m b : ℕ) → b + n ≡ c → map (λ i. f + i) (keep q (count_up b (n + m))) ≡ keep p (count_up (f + b) n)
  shifted zero m b e = ap (map (λ i. f + i)) (none_kept b (zero + m) (omega arith))
  shifted (suc n) m b e = go (p (f + b)) (same b (omega arith)) (shifted n m (suc b) (omega arith))
    where
      go : (x : Bool) → q b ≡ x → map (λ i. f + i) (keep q (count_up (suc b) (n + m))) ≡ keep p (count_up (f + suc b) n) → map (λ i. f + i) (keep q (count_up b (suc n + m))) ≡ cond x ((f + b) ∷ keep p (count_up (suc (f + b)) n)) (keep p (count_up (suc (f + b)) n))
      go true y h =
          let z : f + suc b ≡ suc (f + b) = omega arith in
          let k : suc n + m ≡ suc (n + m) = omega arith in
          rw (k, y) (ap (λ xs. (f + b) ∷ xs) (rw z at h))
      go false y h =
          let z : f + suc b ≡ suc (f + b) = omega arith in
          let k : suc n + m ≡ suc (n + m) = omega arith in
          rw (k, y) (rw z at h)

pub heads_kept : (f s c : ℕ) (p : ℕ → Bool) → c ≤ heads_width → ((j : ℕ) → bit s j ≡ cond (ltb j c && p (f + j)) 1 0) → heads_in f s ≡ keep p (count_up f c)
heads_kept f s c p l h =
    let k : c + (heads_width - c) ≡ heads_width = omega arith in
    let z : f + 0 ≡ f = omega arith in
    ap (map (λ i. f + i)) (members_are s ∙ ap (λ (n : ℕ). keep (λ i. eqb (bit s i) 1) (count_up 0 n)) (sym k))
    ∙ shifted f p (λ i. eqb (bit s i) 1) c (λ j m. ap (λ (n : ℕ). eqb n 1) (h j) ∙ test j (p (f + j)) (ltb_yes j c m)) (λ j m. ap (λ (n : ℕ). eqb n 1) (h j) ∙ past j (ltb_no j c m)) c (heads_width - c) 0 (omega arith)
    ∙ ap (λ (n : ℕ). keep p (count_up n c)) z
  where
    test : (j : ℕ) (b : Bool) → ltb j c ≡ true → eqb (cond (ltb j c && b) 1 0) 1 ≡ b
    test j true e = rw e
    test j false e = rw e

    past : (j : ℕ) → ltb j c ≡ false → eqb (cond (ltb j c && p (f + j)) 1 0) 1 ≡ false
    past j e = rw e

pub keep_all : (p : ℕ → Bool) (b n : ℕ) → ((j : ℕ) → p j ≡ true) → keep p (count_up b n) ≡ count_up b n
keep_all p b zero h = refl
keep_all p b (suc n) h = rw (h b) (ap (λ xs. b ∷ xs) (keep_all p (suc b) n h))

pub count_heads : (f : ℕ) (xs : List ℕ) → length (map (λ i. f + i) xs) ≡ length xs
count_heads f [] = refl
count_heads f (x ∷ xs) = ap suc (count_heads f xs)

pub count_members : (f s : ℕ) → length (heads_in f s) ≡ length (members s)
count_members f s = count_heads f (members s)

-- how many there are at most
pub size_most : (s : ℕ) → length (members s) ≤ heads_width
size_most s = rw (members_are s) (go 0 heads_width)
  where
    go : (b n : ℕ) → length (keep (λ i. eqb (bit s i) 1) (count_up b n)) ≤ n
    go b zero = omega arith
    go b (suc n) = on (eqb (bit s b) 1) (go (suc b) n)
      where
        on : (c : Bool) → length (keep (λ i. eqb (bit s i) 1) (count_up (suc b) n)) ≤ n → length (cond c (b ∷ keep (λ i. eqb (bit s i) 1) (count_up (suc b) n)) (keep (λ i. eqb (bit s i) 1) (count_up (suc b) n))) ≤ suc n
        on true h = omega arith
        on false h = omega arith

pub some_members : (s : ℕ) → 0 < length (members s) → 0 < s
some_members s l = go s refl
  where
    go : (m : ℕ) → s ≡ m → 0 < s
    go zero e = absurd (size_some s (length (members s)) refl (λ z. omega (arith, z)) e)
    go (suc m) e = omega arith

-- what is left is among the first
pub left_among : (s s' all i : ℕ) → ((j : ℕ) → bit s j ≡ 1 → bit all j ≡ 1) → ((j : ℕ) → bit s' j ≡ cond (eqb j i) 0 (bit s j)) → (j : ℕ) → bit s' j ≡ 1 → bit all j ≡ 1
left_among s s' all i h g j e = h j (go (eqb j i) (sym (g j) ∙ e))
  where
    go : (c : Bool) → cond c 0 (bit s j) ≡ 1 → bit s j ≡ 1
    go true z = absurd (omega (arith, z))
    go false z = z
