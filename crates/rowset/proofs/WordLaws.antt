-- What is done to the rows of a set, bit by bit and word by word.
use mathlib.Core.Path.{◌≡◌, refl, sym, ap, ap₂, ◌∙◌}
use mathlib.Core.List.{List}
use mathlib.Core.Bool.{Bool, true, false, cond, not, ◌&&◌, ◌||◌, and-true, and-false}
use Prim.Native.Nat.{ℕ, zero, suc, ◌+◌, ◌-◌, ◌*◌, ◌/◌, ◌%◌, ◌≤◌, ◌<◌, min}
use native.Mathlib.Omega.{arith}
use borrow.Author.Tests.{ltb-true, ltb-false, lt-ltb, le-ltb}
use lib.Dec.{eqb, leb, ltb}
use lib.ListN.{get_or}
use Rattle.signature.proofs.Booleans.{and_left}
use Rattle.signature.proofs.Tests.{eqb_eq, eqb_ne, eqb_no, eqb_self, le_of, lt_of_not, true≢false}
use Rattle.sets.specs.Set.{bit, set_limit, Lowest}
use Rattle.sets.proofs.SetLaws.{bit_lt, bit_zero}
use Rattle.rowset.specs.Limits.{row_limit}
use Rattle.rowset.specs.Member.{member, in_word}
use Rattle.rowset.proofs.MemberLaws.{member_is}

-- the values of the rows that p names are changed, all others stay
abbrev pub Done : {A : Type 0} → (ℕ → Bool) → (ℕ → A → A) → (ℕ → A) → (ℕ → A) → Type 0
Done p op old new = (q : ℕ) → q < row_limit → new q ≡ cond (p q) (op q (old q)) (old q)

-- the rows of r come to those of p
pub record Grows (p r p' : ℕ → Bool) : Type 0 where
  pub apart : (q : ℕ) → r q ≡ true → p q ≡ false
  pub both : (q : ℕ) → p' q ≡ (p q || r q)

module _ {A : Type 0} (op : ℕ → A → A) (old : ℕ → A) where
  pub done_none : (p : ℕ → Bool) → ((q : ℕ) → q < row_limit → p q ≡ false) → Done p op old old
  done_none p h q l = sym (ap (λ (b : Bool). cond b (op q (old q)) (old q)) (h q l))

  pub done_same : (p p' : ℕ → Bool) (new : ℕ → A) → ((q : ℕ) → q < row_limit → p q ≡ p' q) → Done p op old new → Done p' op old new
  done_same p p' new h k q l = k q l ∙ ap (λ (b : Bool). cond b (op q (old q)) (old q)) (h q l)

  -- a row that is not done has its first value
  pub not_yet : (p : ℕ → Bool) (new : ℕ → A) (q : ℕ) → q < row_limit → Done p op old new → p q ≡ false → new q ≡ old q
  not_yet p new q l k e = k q l ∙ ap (λ (b : Bool). cond b (op q (old q)) (old q)) e

  pub done_more : (p r p' : ℕ → Bool) (mid new : ℕ → A) → Grows p r p' → Done p op old mid → Done r op mid new → Done p' op old new
  done_more p r p' mid new g h k q l = k q l ∙ go (p q) refl (r q) refl ∙ ap (λ (b : Bool). cond b (op q (old q)) (old q)) (sym (g.both q))
    where
      go : (b : Bool) → p q ≡ b → (c : Bool) → r q ≡ c → cond c (op q (mid q)) (mid q) ≡ cond (b || c) (op q (old q)) (old q)
      go true e true f = true≢false (sym e ∙ g.apart q f)
      go true e false f = h q l ∙ ap (λ (b : Bool). cond b (op q (old q)) (old q)) e
      go false e true f = ap (op q) (not_yet p mid q l h e)
      go false e false f = not_yet p mid q l h e

-- a word of a set

-- what is in a word by its bits, and outside of the word
pub in_word_by : (base q v : ℕ) (x : Bool) → (base ≤ q → q < base + set_limit → eqb (bit v (q - base)) 1 ≡ x) → (q < base → x ≡ false) → (base + set_limit ≤ q → x ≡ false) → in_word base v q ≡ x
in_word_by base q v x h f g = go (leb base q) refl (ltb q (base + set_limit)) refl
  where
    go : (a : Bool) → leb base q ≡ a → (b : Bool) → ltb q (base + set_limit) ≡ b → (a && b && eqb (bit v (q - base)) 1) ≡ x
    go true e true k = h (le_of base q e) (ltb-true q (base + set_limit) k)
    go true e false k = sym (g (ltb-false q (base + set_limit) k))
    go false e true k = sym (f (lt_of_not base q e))
    go false e false k = sym (f (lt_of_not base q e))

pub in_word_is : (base q v : ℕ) → base ≤ q → q < base + set_limit → in_word base v q ≡ eqb (bit v (q - base)) 1
in_word_is base q v l m = in_word_by base q v (eqb (bit v (q - base)) 1) (λ _ _. refl) (λ k. absurd (omega arith)) (λ k. absurd (omega arith))

pub in_word_below : (base q v : ℕ) → q < base → in_word base v q ≡ false
in_word_below base q v l = in_word_by base q v false (λ k _. absurd (omega arith)) (λ k. refl) (λ k. refl)

pub in_word_above : (base q v : ℕ) → base + set_limit ≤ q → in_word base v q ≡ false
in_word_above base q v l = in_word_by base q v false (λ _ k. absurd (omega arith)) (λ k. refl) (λ k. refl)

-- a bit that is taken off
pub bit_off : (z : Bool) (n : ℕ) → eqb (cond z 0 n) 1 ≡ (eqb n 1 && not z)
bit_off true n = sym (and-false (eqb n 1))
bit_off false n = sym (and-true (eqb n 1))

-- a test of a row is that of its bit
pub eqb_at : (base q b : ℕ) → base ≤ q → eqb (q - base) b ≡ eqb q (base + b)
eqb_at base q b l = go (eqb q (base + b)) refl
  where
    go : (z : Bool) → eqb q (base + b) ≡ z → eqb (q - base) b ≡ z
    go true e = let i : q - base ≡ b = omega (arith, eqb_eq q (base + b) e) in ap (λ (n : ℕ). eqb n b) i ∙ eqb_self b
    go false e = eqb_no (q - base) b (λ i. eqb_ne q (base + b) e (omega arith))

-- what is done of a word: it is in it, and no longer in what is left
abbrev pub gone : ℕ → ℕ → ℕ → ℕ → Bool
gone base word left q = in_word base word q && not (in_word base left q)

-- what is left of a word is of it
abbrev pub Left : ℕ → ℕ → ℕ → Type 0
Left base word left = (q : ℕ) → in_word base left q ≡ true → in_word base word q ≡ true

pub gone_none : (base word q : ℕ) → gone base word word q ≡ false
gone_none base word q = go (in_word base word q)
  where
    go : (b : Bool) → (b && not b) ≡ false
    go true = refl
    go false = refl

pub empty_in : (base q : ℕ) → in_word base 0 q ≡ false
empty_in base q = in_word_by base q 0 false (λ _ _. ap (λ (n : ℕ). eqb n 1) (bit_zero (q - base))) (λ _. refl) (λ _. refl)

pub gone_all : (base word left q : ℕ) → left ≤ 0 → gone base word left q ≡ in_word base word q
gone_all base word left q l =
    let z : left ≡ 0 = omega arith in
    ap (λ (v : ℕ). gone base word v q) z ∙ ap (λ (b : Bool). in_word base word q && not b) (empty_in base q) ∙ and-true (in_word base word q)

pub still : (base word left q : ℕ) → in_word base left q ≡ true → gone base word left q ≡ false
still base word left q e = ap (λ (z : Bool). in_word base word q && not z) e ∙ and-false (in_word base word q)

module _ (base left b : ℕ) (low : Lowest set_limit left b) where
  pub low_in : in_word base left (base + b) ≡ true
  low_in =
      let i : base + b - base ≡ b = omega arith in
      in_word_is base (base + b) left (omega arith) (omega (arith, low.small)) ∙ ap (λ (n : ℕ). eqb (bit left n) 1) i ∙ ap (λ (n : ℕ). eqb n 1) low.member

  module _ (next : ℕ) (without : (j : ℕ) → bit next j ≡ cond (eqb j b) 0 (bit left j)) where
    next_in : (q : ℕ) → in_word base next q ≡ (in_word base left q && not (eqb q (base + b)))
    next_in q = in_word_by base q next (in_word base left q && not (eqb q (base + b)))
        (λ l m. ap (λ (n : ℕ). eqb n 1) (without (q - base)) ∙ ap (λ (z : Bool). eqb (cond z 0 (bit left (q - base))) 1) (eqb_at base q b l) ∙ bit_off (eqb q (base + b)) (bit left (q - base)) ∙ ap (λ (z : Bool). z && not (eqb q (base + b))) (sym (in_word_is base q left l m)))
        (λ l. ap (λ (z : Bool). z && not (eqb q (base + b))) (in_word_below base q left l))
        (λ l. ap (λ (z : Bool). z && not (eqb q (base + b))) (in_word_above base q left l))

    pub left_next : (word : ℕ) → Left base word left → Left base word next
    left_next word h q e = h q (go (in_word base left q) (sym (next_in q) ∙ e))
      where
        go : (x : Bool) → (x && not (eqb q (base + b))) ≡ true → x ≡ true
        go true k = refl
        go false k = k

    -- the lowest of what is left comes to what is done
    pub bits_grow : (word : ℕ) → Left base word left → Grows (gone base word left) (λ q. eqb q (base + b)) (gone base word next)
    bits_grow word h = record {
      apart = λ q e. ap (gone base word left) (eqb_eq q (base + b) e) ∙ still base word left (base + b) low_in;
      both = λ q. ap (λ (z : Bool). in_word base word q && not z) (next_in q) ∙ go q (in_word base word q) refl (in_word base left q) refl (eqb q (base + b)) refl;
    }
      where
        go : (q : ℕ) (x : Bool) → in_word base word q ≡ x → (y : Bool) → in_word base left q ≡ y → (z : Bool) → eqb q (base + b) ≡ z → (x && not (y && not z)) ≡ (x && not y || z)
        go q true e true f true k = refl
        go q true e true f false k = refl
        go q true e false f true k = refl
        go q true e false f false k = refl
        go q false e true f z k = true≢false (sym (h q f) ∙ e)
        go q false e false f true k = true≢false (sym low_in ∙ ap (in_word base left) (sym (eqb_eq q (base + b) k)) ∙ f)
        go q false e false f false k = refl

-- the rows of the first w words of a set
abbrev pub among : List ℕ → ℕ → ℕ → Bool
among s w q = ltb q (set_limit * w) && member s q

-- a row of word w
pub in_member : (s : List ℕ) (w q : ℕ) → in_word (set_limit * w) (get_or s w 0) q ≡ (eqb (q / set_limit) w && member s q)
in_member s w q = go (eqb (q / 64) w) refl
  where
    go : (b : Bool) → eqb (q / 64) w ≡ b → in_word (64 * w) (get_or s w 0) q ≡ (b && member s q)
    go true e =
        let i : q / 64 ≡ w = eqb_eq (q / 64) w e in
        let j : q - 64 * w ≡ q % 64 = omega arith in
        in_word_is (64 * w) q (get_or s w 0) (omega arith) (omega arith) ∙ ap₂ (λ (u n : ℕ). eqb (bit (get_or s u 0) n) 1) (sym i) j ∙ member_is s q
    go false e =
        let n : ¬ (q / 64 ≡ w) = eqb_ne (q / 64) w e in
        in_word_by (64 * w) q (get_or s w 0) false (λ l m. absurd (n (omega arith))) (λ _. refl) (λ _. refl)

pub in_set : (s : List ℕ) (w q : ℕ) → in_word (set_limit * w) (get_or s w 0) q ≡ true → member s q ≡ true
in_set s w q e = go (eqb (q / 64) w) (sym (in_member s w q) ∙ e)
  where
    go : (b : Bool) → (b && member s q) ≡ true → member s q ≡ true
    go true k = k
    go false k = true≢false (sym k)

pub among_none : (s : List ℕ) (q : ℕ) → among s 0 q ≡ false
among_none s q = ap (λ (b : Bool). b && member s q) (le-ltb q 0 (omega arith))

pub among_all : (s : List ℕ) (w q : ℕ) → 4 ≤ w → q < row_limit → among s w q ≡ member s q
among_all s w q h l = ap (λ (b : Bool). b && member s q) (lt-ltb q (64 * w) (omega arith))

-- below the end of word w: before it, or in it
pub word_more : (w q : ℕ) → ltb q (set_limit * (w + 1)) ≡ (ltb q (set_limit * w) || eqb (q / set_limit) w)
word_more w q = go (eqb (q / 64) w) refl
  where
    go : (b : Bool) → eqb (q / 64) w ≡ b → ltb q (64 * (w + 1)) ≡ (ltb q (64 * w) || b)
    go true e =
        let i : q / 64 ≡ w = eqb_eq (q / 64) w e in
        lt-ltb q (64 * (w + 1)) (omega arith) ∙ sym (ap (λ (b : Bool). b || true) (le-ltb q (64 * w) (omega arith)))
    go false e = same (ltb q (64 * w)) refl (eqb_ne (q / 64) w e)
      where
        same : (b : Bool) → ltb q (64 * w) ≡ b → ¬ (q / 64 ≡ w) → ltb q (64 * (w + 1)) ≡ (b || false)
        same true f n = lt-ltb q (64 * (w + 1)) (omega (arith, ltb-true q (64 * w) f))
        same false f n = le-ltb q (64 * (w + 1)) (omega (arith, ltb-false q (64 * w) f, n))

pub word_new : (w q : ℕ) → eqb (q / set_limit) w ≡ true → ltb q (set_limit * w) ≡ false
word_new w q e = le-ltb q (64 * w) (omega (arith, eqb_eq (q / 64) w e))

or_and : (x y z : Bool) → ((x || y) && z) ≡ (x && z || y && z)
or_and true true true = refl
or_and true true false = refl
or_and true false true = refl
or_and true false false = refl
or_and false true true = refl
or_and false true false = refl
or_and false false true = refl
or_and false false false = refl

-- those of the next word come to them
pub words_grow : (s : List ℕ) (w : ℕ) → Grows (among s w) (in_word (set_limit * w) (get_or s w 0)) (among s (w + 1))
words_grow s w = record {
  apart = λ q e. not_before q (eqb (q / 64) w) refl (sym (in_member s w q) ∙ e);
  both = λ q. ap (λ (b : Bool). b && member s q) (word_more w q) ∙ or_and (ltb q (64 * w)) (eqb (q / 64) w) (member s q) ∙ ap (λ (b : Bool). among s w q || b) (sym (in_member s w q));
}
  where
    not_before : (q : ℕ) (b : Bool) → eqb (q / 64) w ≡ b → (b && member s q) ≡ true → among s w q ≡ false
    not_before q true e k = ap (λ (b : Bool). b && member s q) (word_new w q e)
    not_before q false e k = true≢false (sym k)

-- the turns of both loops, from none to all
module _ {A : Type 0} (op : ℕ → A → A) (old : ℕ → A) where
  pub bits_start : (base word : ℕ) → Done (gone base word word) op old old
  bits_start base word = done_none op old (gone base word word) (λ q _. gone_none base word q)

  pub bits_turn : (base word left b next : ℕ) (mid new : ℕ → A) → Left base word left → Lowest set_limit left b → ((j : ℕ) → bit next j ≡ cond (eqb j b) 0 (bit left j)) → Done (gone base word left) op old mid → Done (λ q. eqb q (base + b)) op mid new → Done (gone base word next) op old new
  bits_turn base word left b next mid new h low without = done_more op old (gone base word left) (λ q. eqb q (base + b)) (gone base word next) mid new (bits_grow base left b low next without word h)

  pub bits_end : (base word left : ℕ) (new : ℕ → A) → left ≤ 0 → Done (gone base word left) op old new → Done (in_word base word) op old new
  bits_end base word left new l = done_same op old (gone base word left) (in_word base word) new (λ q _. gone_all base word left q l)

  pub words_start : (s : List ℕ) → Done (among s 0) op old old
  words_start s = done_none op old (among s 0) (λ q _. among_none s q)

  pub words_turn : (s : List ℕ) (w : ℕ) (mid new : ℕ → A) → Done (among s w) op old mid → Done (in_word (set_limit * w) (get_or s w 0)) op mid new → Done (among s (w + 1)) op old new
  words_turn s w mid new = done_more op old (among s w) (in_word (set_limit * w) (get_or s w 0)) (among s (w + 1)) mid new (words_grow s w)

  pub words_end : (s : List ℕ) (w : ℕ) (new : ℕ → A) → 4 ≤ w → Done (among s w) op old new → Done (member s) op old new
  words_end s w new h = done_same op old (among s w) (member s) new (λ q l. among_all s w q h l)

-- the rows of a set that are below n

-- a word of it without the others
pub cut_below : (base word n f r : ℕ) → base ≤ n → ((j : ℕ) → bit f j ≡ cond (ltb j (n - base)) 1 0) → ((j : ℕ) → bit r j ≡ min (bit word j) (bit f j)) → (q : ℕ) → in_word base r q ≡ (in_word base word q && ltb q n)
cut_below base word n f r l h g q =
    in_word_by base q r (in_word base word q && ltb q n)
    (λ m k. ap (λ (b : ℕ). eqb b 1) (g (q - base) ∙ ap (min (bit word (q - base))) (h (q - base))) ∙ go m (ltb q n) refl ∙ ap (λ (b : Bool). b && ltb q n) (sym (in_word_is base q word m k)))
    (λ k. ap (λ (b : Bool). b && ltb q n) (in_word_below base q word k))
    (λ k. ap (λ (b : Bool). b && ltb q n) (in_word_above base q word k))
  where
    kept : (x : ℕ) → x < 2 → eqb (min x 1) 1 ≡ (eqb x 1 && true)
    kept zero k = refl
    kept (suc zero) k = refl
    kept (suc (suc x)) k = absurd (omega arith)

    off : (x : ℕ) → eqb (min x 0) 1 ≡ (eqb x 1 && false)
    off x = let z : min x 0 ≡ 0 = omega arith in ap (λ (b : ℕ). eqb b 1) z ∙ sym (and-false (eqb x 1))

    go : base ≤ q → (b : Bool) → ltb q n ≡ b → eqb (min (bit word (q - base)) (cond (ltb (q - base) (n - base)) 1 0)) 1 ≡ (eqb (bit word (q - base)) 1 && b)
    go m true e = ap (λ (b : Bool). eqb (min (bit word (q - base)) (cond b 1 0)) 1) (lt-ltb (q - base) (n - base) (omega (arith, ltb-true q n e))) ∙ kept (bit word (q - base)) (bit_lt word (q - base))
    go m false e = ap (λ (b : Bool). eqb (min (bit word (q - base)) (cond b 1 0)) 1) (le-ltb (q - base) (n - base) (omega (arith, ltb-false q n e))) ∙ off (bit word (q - base))

pub all_below : (base word n : ℕ) → base + set_limit ≤ n → (q : ℕ) → in_word base word q ≡ (in_word base word q && ltb q n)
all_below base word n l q = go (ltb q n) refl
  where
    go : (b : Bool) → ltb q n ≡ b → in_word base word q ≡ (in_word base word q && b)
    go true e = sym (and-true (in_word base word q))
    go false e = in_word_above base q word (omega (arith, ltb-false q n e)) ∙ sym (and-false (in_word base word q))

-- those of the first w words
abbrev pub among_below : List ℕ → ℕ → ℕ → ℕ → Bool
among_below s n w q = among s w q && ltb q n

pub below_start : (s : List ℕ) (n q : ℕ) → among_below s n 0 q ≡ false
below_start s n q = ap (λ (b : Bool). b && ltb q n) (among_none s q)

pub below_end : (s : List ℕ) (n w q : ℕ) → n ≤ set_limit * w → among_below s n w q ≡ (member s q && ltb q n)
below_end s n w q l = go (ltb q n) refl
  where
    go : (b : Bool) → ltb q n ≡ b → (among s w q && b) ≡ (member s q && b)
    go true e = ap (λ (z : Bool). (z && member s q) && true) (lt-ltb q (64 * w) (omega (arith, ltb-true q n e)))
    go false e = and-false (among s w q) ∙ sym (and-false (member s q))

-- word w of them is v
module _ (s : List ℕ) (n w v : ℕ) (h : (q : ℕ) → in_word (set_limit * w) v q ≡ (in_word (set_limit * w) (get_or s w 0) q && ltb q n)) where
  pub in_below : (q : ℕ) → in_word (set_limit * w) v q ≡ true → (member s q ≡ true) × (q < n)
  in_below q e = go (in_word (64 * w) (get_or s w 0) q) refl (ltb q n) refl (sym (h q) ∙ e)
    where
      go : (a : Bool) → in_word (64 * w) (get_or s w 0) q ≡ a → (b : Bool) → ltb q n ≡ b → (a && b) ≡ true → (member s q ≡ true) × (q < n)
      go true i true j k = (in_set s w q i, ltb-true q n j)
      go true i false j k = true≢false (sym k)
      go false i b j k = true≢false (sym k)

  pub below_grow : Grows (among_below s n w) (in_word (set_limit * w) v) (among_below s n (w + 1))
  below_grow = record {
    apart = λ q e. ap (λ (b : Bool). b && ltb q n) ((words_grow s w).apart q (and_left (in_word (64 * w) (get_or s w 0) q) (ltb q n) (sym (h q) ∙ e)));
    both = λ q. ap (λ (b : Bool). b && ltb q n) ((words_grow s w).both q) ∙ or_and (among s w q) (in_word (64 * w) (get_or s w 0) q) (ltb q n) ∙ ap (λ (b : Bool). among_below s n w q || b) (sym (h q));
  }
