-- The layout of a table, read rule by rule.
use mathlib.Core.Path.{◌≡◌, refl, sym, ap, ap₂, ◌∙◌}
use mathlib.Core.List.{List, [], ◌∷◌}
use mathlib.Core.Option.{Option, none, some}
use mathlib.Core.Bool.{Bool, true, false, ◌&&◌}
use Prim.Native.Nat.{ℕ, zero, suc, ◌+◌, ◌-◌, ◌≤◌, ◌<◌}
use native.Mathlib.Numerals.{add-one}
use native.Mathlib.Omega.{arith}
use lib.Bits.{bit_or, or_zero_l, or_zero_r, or_add_and, and_le_r}
use lib.Dec.{eqb, ltb, leb}
use lib.ListN.{length, get_or, take, drop, length-drop, drop_of_length-le}
use lib.Seq.{length-take-le, take-nil, drop-cons, get_or-take, drop-drop}
use Rattle.signature.specs.Lists.{all, require, is_some, ◌>>=◌}
use Rattle.signature.proofs.ListFacts.{split_none, split_some}
use Rattle.signature.proofs.Members.{some_when}
use Rattle.signature.proofs.Booleans.{and_assoc, and_false, and_true}
use Rattle.signature.proofs.Tests.{eqb_eq, eqb_ne, eqb_no, ltb_yes, ltb_no, leb_yes, leb_no}
use Rattle.tree.specs.Limits.{last_number}
use Rattle.table.specs.Limits.{limits, table_length, rules_length, rules_at}
use Rattle.table.specs.Rule.{Rule}
use Rattle.table.specs.Sound.{read_rules}
use Rattle.store.specs.Head.{from}
use Rattle.store.specs.Laid.{laid}

is_some_on : {A B : Type 0} (o : Option A) (f : A → B) → is_some (o >>= λ a. some (f a)) ≡ is_some o
is_some_on none f = refl
is_some_on (some a) f = refl

-- one rule

no_head : (n m : ℕ) (ws : List ℕ) → length ws < 3 → is_some (read_rules (suc n) m ws) ≡ false
no_head n m [] l = refl
no_head n m (a ∷ []) l = refl
no_head n m (a ∷ (b ∷ [])) l = refl
no_head n m (a ∷ (b ∷ (c ∷ ws))) l = absurd (omega arith)

module _ (n m a b l : ℕ) (ws : List ℕ) where
  not_risen : a ≤ m → is_some (read_rules (suc n) m (a ∷ (b ∷ (l ∷ ws)))) ≡ false
  not_risen h = rw (ltb_no m a h)

  too_high : last_number < a → is_some (read_rules (suc n) m (a ∷ (b ∷ (l ∷ ws)))) ≡ false
  too_high h = rw (leb_no a last_number h, and_false (ltb m a))

  cut_short : length ws < l → is_some (read_rules (suc n) m (a ∷ (b ∷ (l ∷ ws)))) ≡ false
  cut_short h = rw (split_none l ws h) (go (ltb m a && leb a last_number))
    where
      go : (t : Bool) → is_some {A = List Rule} (require t >>= λ u. none) ≡ false
      go true = refl
      go false = refl

  one_more : m < a → a ≤ last_number → l ≤ length ws → is_some (read_rules (suc n) m (a ∷ (b ∷ (l ∷ ws)))) ≡ is_some (read_rules n a (drop l ws))
  one_more h k f = rw (ltb_yes m a h, leb_yes a last_number k, split_some l ws f) (is_some_on (read_rules n a (drop l ws)) _)

-- zeros, by all bits
or_zero : (a b : ℕ) → eqb (bit_or a b) 0 ≡ (eqb a 0 && eqb b 0)
or_zero a b = go (eqb a 0) (eqb b 0) refl refl
  where
    go : (x y : Bool) → eqb a 0 ≡ x → eqb b 0 ≡ y → eqb (bit_or a b) 0 ≡ (eqb a 0 && eqb b 0)
    go true y p q = ap (λ z. eqb (bit_or z b) 0) (eqb_eq a 0 p) ∙ ap (λ z. eqb z 0) (or_zero_l b) ∙ sym (ap (λ z. z && eqb b 0) p)
    go false true p q = ap (λ z. eqb (bit_or a z) 0) (eqb_eq b 0 q) ∙ ap (λ z. eqb z 0) (or_zero_r a) ∙ sym (ap (λ z. eqb a 0 && z) q ∙ and_true (eqb a 0))
    go false false p q = eqb_no (bit_or a b) 0 (λ e. eqb_ne a 0 p (omega (arith, or_add_and a b, and_le_r a b))) ∙ sym (ap₂ ◌&&◌ p q)

module _ (ws : List ℕ) (bits i : ℕ) where
  -- the bits of the words before i, and the words from there on
  abbrev pub Zeros : Type 0
  Zeros = all (λ w. eqb w 0) ws ≡ (eqb bits 0 && all (λ w. eqb w 0) (drop i ws))

  pub zeros_on : i < length ws → Zeros → all (λ w. eqb w 0) ws ≡ (eqb (bit_or bits (get_or ws i 0)) 0 && all (λ w. eqb w 0) (drop (i + 1) ws))
  zeros_on l h =
      let e : all (λ w. eqb w 0) (drop i ws) ≡ (eqb (get_or ws i 0) 0 && all (λ w. eqb w 0) (drop (i + 1) ws)) = ap (all (λ w. eqb w 0)) (drop-cons ws i 0 l) ∙ rw (add-one i) in
      h ∙ ap (λ z. eqb bits 0 && z) e ∙ and_assoc (eqb bits 0) (eqb (get_or ws i 0) 0) (all (λ w. eqb w 0) (drop (i + 1) ws)) ∙ ap (λ z. z && all (λ w. eqb w 0) (drop (i + 1) ws)) (sym (or_zero bits (get_or ws i 0)))

  pub zeros_end : length ws ≤ i → Zeros → eqb bits 0 ≡ all (λ w. eqb w 0) ws
  zeros_end l h = sym (h ∙ ap (λ z. eqb bits 0 && z) (ap (all (λ w. eqb w 0)) (drop_of_length-le ws l)) ∙ and_true (eqb bits 0))

-- the words of a table
drop_take : (m n : ℕ) (ws : List ℕ) → drop m (take n ws) ≡ take (n - m) (drop m ws)
drop_take zero zero ws = refl
drop_take zero (suc n) ws = let z : suc n - 0 ≡ suc n = omega arith in rw z
drop_take (suc m) zero ws = let z : 0 - suc m ≡ 0 = omega arith in rw z
drop_take (suc m) (suc n) [] = let z : suc n - suc m ≡ n - m = omega arith in rw (z, take-nil {A = ℕ} (n - m))
drop_take (suc m) (suc n) (w ∷ ws) = let z : suc n - suc m ≡ n - m = omega arith in rw z (drop_take m n ws)

pub part_from : (t : List ℕ) (at : ℕ) → take (table_length limits - at) (drop at t) ≡ from t at
part_from t at = sym (drop_take at (table_length limits) t)

module _ (t : List ℕ) (long : table_length limits ≤ length t) where
  from_length : (at : ℕ) → length (from t at) ≡ table_length limits - at
  from_length at = length-drop at (take (table_length limits) t) ∙ ap (λ (n : ℕ). n - at) (length-take-le (table_length limits) t long)

  from_cons : (at : ℕ) → at < (table_length limits) → from t at ≡ get_or t at 0 ∷ from t (at + 1)
  from_cons at l =
      let one : suc at ≡ at + 1 = omega arith in
      drop-cons (take (table_length limits) t) at 0 (omega (arith, length-take-le (table_length limits) t long)) ∙ ap₂ (λ (w n : ℕ). w ∷ from t n) (get_or-take (table_length limits) t at 0 l) one

  from_head : (at : ℕ) → at + 3 ≤ (table_length limits) → from t at ≡ get_or t at 0 ∷ (get_or t (at + 1) 0 ∷ (get_or t (at + 2) 0 ∷ from t (at + 3)))
  from_head at l =
      let two : at + 1 + 1 ≡ at + 2 = omega arith in
      let three : at + 2 + 1 ≡ at + 3 = omega arith in
      from_cons at (omega arith) ∙ ap (λ (x : List ℕ). get_or t at 0 ∷ x) (from_cons (at + 1) (omega arith) ∙ ap (λ (x : List ℕ). get_or t (at + 1) 0 ∷ x) (ap (from t) two ∙ from_cons (at + 2) (omega arith) ∙ ap (λ (n : ℕ). get_or t (at + 2) 0 ∷ from t n) three))

  -- the rule at an index
  module _ (at m n : ℕ) where
    pub no_room : at ≤ (table_length limits) → table_length limits - at < 3 → is_some (read_rules (suc n) m (from t at)) ≡ false
    no_room l h = no_head n m (from t at) (omega (arith, from_length at))

    module _ (fits : at + 3 ≤ (table_length limits)) where
      pub falls : get_or t at 0 ≤ m → is_some (read_rules (suc n) m (from t at)) ≡ false
      falls h = ap (λ (x : List ℕ). is_some (read_rules (suc n) m x)) (from_head at fits) ∙ not_risen n m (get_or t at 0) (get_or t (at + 1) 0) (get_or t (at + 2) 0) (from t (at + 3)) h

      pub high : last_number < get_or t at 0 → is_some (read_rules (suc n) m (from t at)) ≡ false
      high h = ap (λ (x : List ℕ). is_some (read_rules (suc n) m x)) (from_head at fits) ∙ too_high n m (get_or t at 0) (get_or t (at + 1) 0) (get_or t (at + 2) 0) (from t (at + 3)) h

      pub cut : table_length limits - (at + 3) < get_or t (at + 2) 0 → is_some (read_rules (suc n) m (from t at)) ≡ false
      cut h = ap (λ (x : List ℕ). is_some (read_rules (suc n) m x)) (from_head at fits) ∙ cut_short n m (get_or t at 0) (get_or t (at + 1) 0) (get_or t (at + 2) 0) (from t (at + 3)) (omega (arith, from_length (at + 3)))

      pub on : m < get_or t at 0 → get_or t at 0 ≤ last_number → get_or t (at + 2) 0 ≤ table_length limits - (at + 3) → is_some (read_rules (suc n) m (from t at)) ≡ is_some (read_rules n (get_or t at 0) (from t (at + 3 + get_or t (at + 2) 0)))
      on h k f = ap (λ (x : List ℕ). is_some (read_rules (suc n) m x)) (from_head at fits) ∙ one_more n m (get_or t at 0) (get_or t (at + 1) 0) (get_or t (at + 2) 0) (from t (at + 3)) h k (omega (arith, from_length (at + 3))) ∙ ap (λ (x : List ℕ). is_some (read_rules n (get_or t at 0) x)) (drop-drop (get_or t (at + 2) 0) (at + 3) (take (table_length limits) t))

-- the whole

pub laid_over : (t : List ℕ) → limits.rules < get_or t 0 0 → is_some (laid limits t) ≡ false
laid_over [] h = refl
laid_over (n ∷ []) h = refl
laid_over (n ∷ (d ∷ ws)) h = rw (leb_no n limits.rules h, and_false (leb (rules_length limits) (length ws)))

pub laid_start : (t : List ℕ) → table_length limits ≤ length t → get_or t 0 0 ≤ limits.rules → is_some (laid limits t) ≡ is_some (read_rules (get_or t 0 0 - 0) 0 (from t rules_at))
laid_start [] l h = absurd (omega arith)
laid_start (n ∷ []) l h = absurd (omega arith)
laid_start (n ∷ (d ∷ ws)) l h =
    let z : n - 0 ≡ n = omega arith in
    rw (leb_yes (rules_length limits) (length ws) (omega arith), leb_yes n limits.rules h, z)

pub laid_on : (t : List ℕ) (n i m k at at' : ℕ) → i < n → is_some (laid limits t) ≡ is_some (read_rules (n - i) m (from t at)) → ((j : ℕ) → is_some (read_rules (suc j) m (from t at)) ≡ is_some (read_rules j k (from t at'))) → is_some (laid limits t) ≡ is_some (read_rules (n - (i + 1)) k (from t at'))
laid_on t n i m k at at' l e f =
    let s : n - i ≡ suc (n - (i + 1)) = omega arith in
    e ∙ ap (λ (j : ℕ). is_some (read_rules j m (from t at))) s ∙ f (n - (i + 1))

pub laid_broken : (t : List ℕ) (n i m at : ℕ) → i < n → is_some (laid limits t) ≡ is_some (read_rules (n - i) m (from t at)) → ((j : ℕ) → is_some (read_rules (suc j) m (from t at)) ≡ false) → is_some (laid limits t) ≡ false
laid_broken t n i m at l e f =
    let s : n - i ≡ suc (n - (i + 1)) = omega arith in
    e ∙ ap (λ (j : ℕ). is_some (read_rules j m (from t at))) s ∙ f (n - (i + 1))

pub laid_end : (t : List ℕ) (n i m at : ℕ) → n ≤ i → is_some (laid limits t) ≡ is_some (read_rules (n - i) m (from t at)) → is_some (laid limits t) ≡ all (λ w. eqb w 0) (from t at)
laid_end t n i m at l e =
    let z : n - i ≡ 0 = omega arith in
    e ∙ ap (λ (j : ℕ). is_some (read_rules j m (from t at))) z ∙ some_when (all (λ w. eqb w 0) (from t at)) []
