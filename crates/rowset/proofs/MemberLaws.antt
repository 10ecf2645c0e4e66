-- Sets of rows.
use mathlib.Core.Path.{◌≡◌, refl, sym, ap, ap₂, ◌∙◌}
use mathlib.Core.List.{List, [], ◌∷◌}
use mathlib.Core.Bool.{Bool, true, false, cond, not, ◌&&◌}
use Prim.Native.Nat.{ℕ, zero, suc, ◌+◌, ◌*◌, ◌/◌, ◌%◌, ◌≤◌, ◌<◌, min}
use native.Mathlib.Omega.{arith}
use borrow.Author.Tests.{ltb-true, ltb-false, lt-ltb, le-ltb}
use lib.Dec.{eqb, ltb}
use lib.ListN.{length, get_or, set}
use lib.Seq.{get_or-set_same, get_or-set_other}
use Rattle.sets.specs.Set.{bit, set_limit, Lowest}
use Rattle.sets.proofs.SetLaws.{bit_lt, bit_zero}
use Rattle.signature.proofs.Booleans.{and_left, and_right}
use Rattle.signature.proofs.Tests.{eqb_eq, eqb_ne, eqb_no, eqb_self, true≢false}
use Rattle.rowset.specs.Limits.{row_limit}
use Rattle.rowset.specs.Member.{member, FirstIn, NextIn, OnlyIn}
use Rattle.sets.proofs.ListSets.{one_if}

pub member_is : (s : List ℕ) (r : ℕ) → eqb (bit (get_or s (r / 64) 0) (r % 64)) 1 ≡ member s r
unfolding member
member_is s r = refl

one_is : (b : Bool) → eqb (one_if b) 1 ≡ b
one_is true = refl
one_is false = refl

-- a word of the set is replaced by one that has the bit of row r as b says, and the others as they were
put_word : (s : List ℕ) (r q : ℕ) (b : Bool) (w : ℕ) → r / 64 < length s → ((j : ℕ) → bit w j ≡ cond (eqb j (r % 64)) (one_if b) (bit (get_or s (r / 64) 0) j)) → member (set s (r / 64) w) q ≡ cond (eqb q r) b (member s q)
put_word s r q b w l h = sym (member_is (set s (r / 64) w) q) ∙ go (eqb q r) refl
  where
    same : (z : Bool) → eqb (q / 64) (r / 64) ≡ z → ¬ (q ≡ r) → eqb (bit (get_or (set s (r / 64) w) (q / 64) 0) (q % 64)) 1 ≡ member s q
    same true e n =
        let i : q / 64 ≡ r / 64 = eqb_eq (q / 64) (r / 64) e in
        let m : ¬ (q % 64 ≡ r % 64) = λ z. n (omega (arith, i, z)) in
        rw (i, get_or-set_same s (r / 64) w 0 l, h (q % 64), eqb_no (q % 64) (r % 64) m) (rw (← i) (member_is s q))
    same false e n = rw (get_or-set_other s (r / 64) (q / 64) w 0 (eqb_ne (q / 64) (r / 64) e)) (member_is s q)

    go : (z : Bool) → eqb q r ≡ z → eqb (bit (get_or (set s (r / 64) w) (q / 64) 0) (q % 64)) 1 ≡ cond z b (member s q)
    go true e =
        let i : q ≡ r = eqb_eq q r e in
        rw (i, get_or-set_same s (r / 64) w 0 l, h (r % 64), eqb_self (r % 64)) (one_is b)
    go false e = same (eqb (q / 64) (r / 64)) refl (eqb_ne q r e)

pub put_in : (s : List ℕ) (r q : ℕ) (b : Bool) (w : ℕ) → length s ≡ 4 → r < row_limit → b ≡ true → ((j : ℕ) → bit w j ≡ cond (eqb j (r % 64)) 1 (bit (get_or s (r / 64) 0) j)) → member (set s (r / 64) w) q ≡ cond (eqb q r) b (member s q)
put_in s r q b w l m e h = put_word s r q b w (omega arith) (λ j. h j ∙ ap (λ (z : Bool). cond (eqb j (r % 64)) (one_if z) (bit (get_or s (r / 64) 0) j)) (sym e))

pub put_out : (s : List ℕ) (r q : ℕ) (b : Bool) (w : ℕ) → length s ≡ 4 → r < row_limit → b ≡ false → ((j : ℕ) → bit w j ≡ cond (eqb j (r % 64)) 0 (bit (get_or s (r / 64) 0) j)) → member (set s (r / 64) w) q ≡ cond (eqb q r) b (member s q)
put_out s r q b w l m e h = put_word s r q b w (omega arith) (λ j. h j ∙ ap (λ (z : Bool). cond (eqb j (r % 64)) (one_if z) (bit (get_or s (r / 64) 0) j)) (sym e))

-- no row from f on of the first i words is a member
abbrev pub NoneIn : List ℕ → ℕ → ℕ → Type 0
NoneIn s f i = (q : ℕ) → f ≤ q → q < 64 * i → member s q ≡ false

-- a row of word i, by its bit
of_word : (s : List ℕ) (i q b : ℕ) → q / 64 ≡ i → bit (get_or s i 0) (q % 64) ≡ b → member s q ≡ eqb b 1
of_word s i q b e h = sym (member_is s q) ∙ (rw (e, h))

pub word_none : (s : List ℕ) (f i : ℕ) → NoneIn s f i → get_or s i 0 ≤ 0 → NoneIn s f (i + 1)
word_none s f i h l q k m = go (ltb q (64 * i)) refl
  where
    go : (b : Bool) → ltb q (64 * i) ≡ b → member s q ≡ false
    go true e = h q k (ltb-true q (64 * i) e)
    go false e =
        let z : get_or s i 0 ≡ 0 = omega arith in
        of_word s i q 0 (omega (arith, ltb-false q (64 * i) e)) (ap (λ (w : ℕ). bit w (q % 64)) z ∙ bit_zero (q % 64))

-- word i without its rows before f, of which b is the lowest
pub word_first : (s : List ℕ) (f i w b n : ℕ) → f ≤ 64 * i + 63 → NoneIn s f i → ((j : ℕ) → f ≤ 64 * i + j → bit w j ≡ bit (get_or s i 0) j) → ((j : ℕ) → 64 * i + j < f → bit w j ≡ 0) → Lowest set_limit w b → NextIn s f n (min (64 * i + b) n)
word_first s f i w b n k h same off x = record {
  most = omega arith;
  least = omega (arith, from);
  between = λ q k l. go q k (omega arith) (ltb q (64 * i)) refl;
  there = λ l.
      let e : min (64 * i + b) n ≡ 64 * i + b = omega arith in
      let g : (64 * i + b) % 64 ≡ b = omega (arith, x.small) in
      rw e (of_word s i (64 * i + b) 1 (omega (arith, x.small)) (ap (bit (get_or s i 0)) g ∙ sym (same b from) ∙ x.member));
}
  where
    from : f ≤ 64 * i + b
    from = within (ltb (64 * i + b) f) refl
      where
        within : (z : Bool) → ltb (64 * i + b) f ≡ z → f ≤ 64 * i + b
        within true e = absurd (omega (arith, x.member, off b (ltb-true (64 * i + b) f e)))
        within false e = ltb-false (64 * i + b) f e

    go : (q : ℕ) → f ≤ q → q < 64 * i + b → (z : Bool) → ltb q (64 * i) ≡ z → member s q ≡ false
    go q m l true e = h q m (ltb-true q (64 * i) e)
    go q m l false e =
        let o : 64 * i ≤ q = ltb-false q (64 * i) e in
        let r : f ≤ 64 * i + q % 64 = omega (arith, x.small) in
        of_word s i q 0 (omega (arith, x.small)) (sym (same (q % 64) r) ∙ x.none_below (q % 64) (omega (arith, x.small)))

-- word i without the rows before f, which is one of its rows
pub record Cut (s : List ℕ) (f i w : ℕ) : Type 0 where
  pub same : (j : ℕ) → f ≤ 64 * i + j → bit w j ≡ bit (get_or s i 0) j
  pub off : (j : ℕ) → 64 * i + j < f → bit w j ≡ 0

pub cut_word : (s : List ℕ) (f i a w : ℕ) → i ≡ f / 64 → ((j : ℕ) → bit a j ≡ cond (ltb j (f % 64)) 1 0) → ((j : ℕ) → bit w j ≡ cond (eqb (bit a j) 1) 0 (bit (get_or s i 0) j)) → Cut s f i w
cut_word s f i a w e h g = record {
  same = λ j l. g j ∙ ap (λ (b : ℕ). cond (eqb b 1) 0 (bit (get_or s i 0) j)) (h j ∙ ap (λ (z : Bool). cond z 1 0) (le-ltb j (f % 64) (omega (arith, e))));
  off = λ j l. g j ∙ ap (λ (b : ℕ). cond (eqb b 1) 0 (bit (get_or s i 0) j)) (h j ∙ ap (λ (z : Bool). cond z 1 0) (lt-ltb j (f % 64) (omega (arith, e))));
}

pub cut_first : (s : List ℕ) (f i w b n : ℕ) → i ≡ f / 64 → Cut s f i w → Lowest set_limit w b → NextIn s f n (min (64 * i + b) n)
cut_first s f i w b n e k x = word_first s f i w b n (omega (arith, e)) (λ q m l. absurd (omega (arith, e))) k.same k.off x

pub cut_none : (s : List ℕ) (f i w n r : ℕ) → i ≡ f / 64 → Cut s f i w → w ≤ 0 → f ≤ n → NextIn s (64 * (i + 1)) n r → NextIn s f n r
cut_none s f i w n r e k l m x = record {
  most = x.most;
  least = omega (arith, x.least, e);
  between = λ q a b. go q a b (ltb q (64 * (i + 1))) refl;
  there = x.there;
}
  where
    go : (q : ℕ) → f ≤ q → q < r → (z : Bool) → ltb q (64 * (i + 1)) ≡ z → member s q ≡ false
    go q a b true z =
        let d : q < 64 * (i + 1) = ltb-true q (64 * (i + 1)) z in
        let v : w ≡ 0 = omega arith in
        of_word s i q 0 (omega (arith, e)) (sym (k.same (q % 64) (omega (arith, e))) ∙ ap (λ (y : ℕ). bit y (q % 64)) v ∙ bit_zero (q % 64))
    go q a b false z = x.between q (ltb-false q (64 * (i + 1)) z) b

-- the members are those below r
abbrev pub Below : List ℕ → ℕ → Type 0
Below s r = (q : ℕ) → q < row_limit → member s q ≡ ltb q r

pub below_none : Below (0 ∷ 0 ∷ 0 ∷ 0 ∷ []) 0
below_none q l = sym (member_is (0 ∷ 0 ∷ 0 ∷ 0 ∷ []) q) ∙ ap (λ (w : ℕ). eqb (bit w (q % 64)) 1) (zero_at (q / 64)) ∙ ap (λ (b : ℕ). eqb b 1) (bit_zero (q % 64)) ∙ sym (le-ltb q 0 (omega arith))
  where
    zero_at : (i : ℕ) → ◌≡◌ {A = ℕ} (get_or (0 ∷ 0 ∷ 0 ∷ 0 ∷ []) i 0) 0
    zero_at zero = refl
    zero_at (suc zero) = refl
    zero_at (suc (suc zero)) = refl
    zero_at (suc (suc (suc zero))) = refl
    zero_at (suc (suc (suc (suc i)))) = refl

-- the rows of the first w words are those of s
abbrev pub Copied : List ℕ → List ℕ → ℕ → Type 0
Copied s x w = (q : ℕ) → q < 64 * w → member x q ≡ member s q

pub copied_next : (s x : List ℕ) (w : ℕ) → w < length x → Copied s x w → Copied s (set x w (get_or s w 0)) (w + 1)
copied_next s x w l h q k = go (ltb q (64 * w)) refl
  where
    go : (b : Bool) → ltb q (64 * w) ≡ b → member (set x w (get_or s w 0)) q ≡ member s q
    go true e =
        let n : ¬ (q / 64 ≡ w) = λ z. omega (arith, ltb-true q (64 * w) e, z) in
        sym (member_is (set x w (get_or s w 0)) q) ∙ (rw (get_or-set_other x w (q / 64) (get_or s w 0) 0 n) (member_is x q)) ∙ h q (ltb-true q (64 * w) e)
    go false e =
        let i : q / 64 ≡ w = omega (arith, ltb-false q (64 * w) e) in
        sym (member_is (set x w (get_or s w 0)) q) ∙ (rw (i, get_or-set_same x w (get_or s w 0) 0 l) (rw (← i) (member_is s q)))

-- the rows before r are members as f says, the others as g
pub record Settled (f g : ℕ → Bool) (s : List ℕ) (r : ℕ) : Type 0 where
  pub done : (q : ℕ) → q < r → q < row_limit → member s q ≡ f q
  pub todo : (q : ℕ) → r ≤ q → q < row_limit → member s q ≡ g q

pub settled_start : {f g : ℕ → Bool} {s : List ℕ} → ((q : ℕ) → q < row_limit → member s q ≡ g q) → Settled f g s 0
settled_start h = record { done = λ q l k. absurd (omega arith); todo = λ q l k. h q k }

-- past rows for which both say the same
pub settled_past : {f g : ℕ → Bool} {s : List ℕ} {r : ℕ} (r' : ℕ) → Settled f g s r → r ≤ r' → ((q : ℕ) → r ≤ q → q < r' → g q ≡ f q) → Settled f g s r'
settled_past {f} {g} {s} {r} r' w l h = record { done = λ q m k. go q m k (ltb q r) refl; todo = λ q m k. w.todo q (omega arith) k }
  where
    go : (q : ℕ) → q < r' → q < row_limit → (b : Bool) → ltb q r ≡ b → member s q ≡ f q
    go q m k true e = w.done q (ltb-true q r e) k
    go q m k false e = let o : r ≤ q = ltb-false q r e in w.todo q o k ∙ h q o m

pub settled_next : {f g : ℕ → Bool} {s : List ℕ} {r : ℕ} (x : List ℕ) (b : Bool) → Settled f g s r → b ≡ f r → ((q : ℕ) → q < row_limit → member x q ≡ cond (eqb q r) b (member s q)) → Settled f g x (r + 1)
settled_next {f} {g} {s} {r} x b w e h = record { done = λ q m k. h q k ∙ go q m k (eqb q r) refl; todo = λ q m k. h q k ∙ ap (λ (z : Bool). cond z b (member s q)) (eqb_no q r (λ z. absurd (omega (arith, z)))) ∙ w.todo q (omega arith) k }
  where
    go : (q : ℕ) → q < r + 1 → q < row_limit → (z : Bool) → eqb q r ≡ z → cond z b (member s q) ≡ f q
    go q m k true i = e ∙ ap f (sym (eqb_eq q r i))
    go q m k false i = w.done q (omega (arith, eqb_ne q r i)) k

-- a word of a difference
not_bit : (a b : ℕ) → a < 2 → b < 2 → eqb (cond (eqb b 1) 0 a) 1 ≡ (eqb a 1 && not (eqb b 1))
not_bit zero zero h l = refl
not_bit zero (suc zero) h l = refl
not_bit zero (suc (suc b)) h l = absurd (omega arith)
not_bit (suc zero) zero h l = refl
not_bit (suc zero) (suc zero) h l = refl
not_bit (suc zero) (suc (suc b)) h l = absurd (omega arith)
not_bit (suc (suc a)) zero h l = absurd (omega arith)
not_bit (suc (suc a)) (suc zero) h l = absurd (omega arith)
not_bit (suc (suc a)) (suc (suc b)) h l = absurd (omega arith)

-- the rows of the first w words are those of s that are not in x
abbrev pub Less : List ℕ → List ℕ → List ℕ → ℕ → Type 0
Less s x r w = (q : ℕ) → q < 64 * w → member r q ≡ (member s q && not (member x q))

pub less_next : (s x r : List ℕ) (w v : ℕ) → w < length r → Less s x r w → ((j : ℕ) → bit v j ≡ cond (eqb (bit (get_or x w 0) j) 1) 0 (bit (get_or s w 0) j)) → Less s x (set r w v) (w + 1)
less_next s x r w v l h g q k = go (ltb q (64 * w)) refl
  where
    go : (b : Bool) → ltb q (64 * w) ≡ b → member (set r w v) q ≡ (member s q && not (member x q))
    go true e =
        let n : ¬ (q / 64 ≡ w) = λ z. omega (arith, ltb-true q (64 * w) e, z) in
        sym (member_is (set r w v) q) ∙ (rw (get_or-set_other r w (q / 64) v 0 n) (member_is r q)) ∙ h q (ltb-true q (64 * w) e)
    go false e =
        let i : q / 64 ≡ w = omega (arith, ltb-false q (64 * w) e) in
        sym (member_is (set r w v) q)
        ∙ (rw (i, get_or-set_same r w v 0 l, g (q % 64)) (not_bit (bit (get_or s w 0) (q % 64)) (bit (get_or x w 0) (q % 64)) (bit_lt (get_or s w 0) (q % 64)) (bit_lt (get_or x w 0) (q % 64))))
        ∙ ap₂ (λ (a b : Bool). a && not b) (sym (of_word s w q (bit (get_or s w 0) (q % 64)) i refl)) (sym (of_word x w q (bit (get_or x w 0) (q % 64)) i refl))

-- whether a row is in what one row leaves
module _ (s one r : List ℕ) (i : ℕ) (h : (q : ℕ) → q < row_limit → member one q ≡ cond (eqb q i) true (member (0 ∷ 0 ∷ 0 ∷ 0 ∷ []) q)) (g : (q : ℕ) → q < row_limit → member r q ≡ (member s q && not (member one q))) where
  others : (q : ℕ) → q < row_limit → (b : Bool) → eqb q i ≡ b → member one q ≡ b
  others q l true z = h q l ∙ ap (λ (b : Bool). cond b true (member (0 ∷ 0 ∷ 0 ∷ 0 ∷ []) q)) z
  others q l false z = h q l ∙ ap (λ (b : Bool). cond b true (member (0 ∷ 0 ∷ 0 ∷ 0 ∷ []) q)) z ∙ below_none q l ∙ le-ltb q 0 (omega arith)

  none_but : (f : ℕ) → FirstIn r row_limit f → row_limit ≤ f → (q : ℕ) → q < row_limit → member s q ≡ true → q ≡ i
  none_but f x k q l e = go (eqb q i) refl
    where
      go : (b : Bool) → eqb q i ≡ b → q ≡ i
      go true z = eqb_eq q i z
      go false z = true≢false (sym (sym (x.before q (omega arith)) ∙ g q l ∙ ap₂ (λ (a b : Bool). a && not b) e (others q l false z)))

  one_more : (f : ℕ) → f < row_limit → member r f ≡ true → (member s f ≡ true) × ¬ (f ≡ i)
  one_more f l e = (and_left (member s f) (not (member one f)) both, λ z. true≢false (sym (and_right (member s f) (not (member one f)) both) ∙ ap not (others f l true (rw z (eqb_self i)))))
    where
      both : (member s f && not (member one f)) ≡ true
      both = sym (g f l) ∙ e

  only_none : (f : ℕ) → FirstIn r row_limit f → row_limit ≤ f → OnlyIn s i true
  only_none f x k = record { alone = λ e. none_but f x k; other = λ e. true≢false e }

  only_other : (f : ℕ) → FirstIn r row_limit f → f < row_limit → OnlyIn s i false
  only_other f x l = record { alone = λ e. true≢false (sym e); other = λ e. let m = one_more f l (x.there l) in (f, l, m.0, m.1) }

  pub only_told : (f : ℕ) → FirstIn r row_limit f → OnlyIn s i (eqb f row_limit)
  only_told f x = go (eqb f row_limit) refl
    where
      go : (b : Bool) → eqb f row_limit ≡ b → OnlyIn s i b
      go true e = only_none f x (omega (arith, eqb_eq f row_limit e))
      go false e = only_other f x (omega (arith, x.most, eqb_ne f row_limit e))
