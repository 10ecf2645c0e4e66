-- Bytes up to a separator, and keys.
use mathlib.Core.Path.{◌≡◌, refl, sym, ap, ◌∙◌}
use mathlib.Core.List.{List, [], ◌∷◌}
use mathlib.Core.Option.{some}
use mathlib.Core.Bool.{Bool, true, false, cond}
use Prim.Native.Nat.{ℕ, suc, ◌-◌, ◌≤◌, ◌<◌}
use native.Mathlib.Decide.{dec_le}
use native.Mathlib.Omega.{arith}
use lib.Dec.{eqb, ltb}
use Rattle.std.specs.Prelude.{Option as Answer, Some, None, unwrap_or, position}
use Rattle.std.specs.List.{position_or_len, starts_with}
use lib.ListN.{length, drop, take, length-drop}
use lib.Seq.{take_all}
use Rattle.signature.specs.Lists.{is_some}
use Rattle.signature.proofs.Tests.{true≢false, ltb_yes, ltb_no}
use Rattle.text.specs.Format.{fields, after_key}
use Rattle.numbers.specs.Bytes.{bytes_before}

-- the rest of a slice
pub to_end : (s : List ℕ) (i : ℕ) → take (length s - i) (drop i s) ≡ drop i s
to_end s i = take_all (length s - i) (drop i s) (omega (arith, length-drop i s))

-- the bytes before the first c are the first part between separators
pub before_most : (c : ℕ) (s : List ℕ) → bytes_before c s ≤ length s
before_most c [] = omega arith
before_most c (b ∷ bs) = go (eqb b c) refl (before_most c bs)
  where
    go : (t : Bool) → eqb b c ≡ t → bytes_before c bs ≤ length bs → bytes_before c (b ∷ bs) ≤ length (b ∷ bs)
    go true q h = rw q (omega arith)
    go false q h = rw q (omega arith)

-- the place of the first c, or how many bytes there are where there is none
before_len : (c : ℕ) (s : List ℕ) → position_or_len (λ b. eqb b c) s ≡ bytes_before c s
before_len c [] = refl
before_len c (b ∷ bs) = go (eqb b c) refl (before_len c bs)
  where
    go : (t : Bool) → eqb b c ≡ t → position_or_len (λ b. eqb b c) bs ≡ bytes_before c bs → position_or_len (λ b. eqb b c) (b ∷ bs) ≡ bytes_before c (b ∷ bs)
    go true q h = rw q
    go false q h = rw (q, h) (omega arith)

pub before_position : (c : ℕ) (s : List ℕ) (place : Answer ℕ) (n : ℕ) → place ≡ position (λ b. eqb b c) s → n ≡ unwrap_or place (length s) → n ≡ bytes_before c s
before_position c s place n p q = q ∙ ap (λ o. unwrap_or o (length s)) p ∙ ap (λ k. unwrap_or (cond (ltb k (length s)) (Some k) None) (length s)) (before_len c s) ∙ go (dec_le (length s) (bytes_before c s))
  where
    go : Dec (length s ≤ bytes_before c s) → unwrap_or (cond (ltb (bytes_before c s) (length s)) (Some (bytes_before c s)) None) (length s) ≡ bytes_before c s
    go (yes h) = rw (ltb_no (bytes_before c s) (length s) h) (omega (arith, before_most c s))
    go (no h) = rw (ltb_yes (bytes_before c s) (length s) (omega arith))

pub fields_more : (c : ℕ) (s : List ℕ) → bytes_before c s < length s → fields c s ≡ take (bytes_before c s) s ∷ fields c (drop (suc (bytes_before c s)) s)
fields_more c [] h = absurd (omega arith)
fields_more c (b ∷ bs) h = go (eqb b c) refl h (fields_more c bs)
  where
    go : (t : Bool) → eqb b c ≡ t → bytes_before c (b ∷ bs) < length (b ∷ bs) → (bytes_before c bs < length bs → fields c bs ≡ take (bytes_before c bs) bs ∷ fields c (drop (suc (bytes_before c bs)) bs))
        → fields c (b ∷ bs) ≡ take (bytes_before c (b ∷ bs)) (b ∷ bs) ∷ fields c (drop (suc (bytes_before c (b ∷ bs))) (b ∷ bs))
    go true q l f = rw q
    go false q l f = let k : suc (bytes_before c bs) < suc (length bs) = rw q at l in rw (q, f (omega arith))

pub fields_last : (c : ℕ) (s : List ℕ) → length s ≤ bytes_before c s → fields c s ≡ s ∷ []
fields_last c [] h = refl
fields_last c (b ∷ bs) h = go (eqb b c) refl h (fields_last c bs)
  where
    go : (t : Bool) → eqb b c ≡ t → length (b ∷ bs) ≤ bytes_before c (b ∷ bs) → (length bs ≤ bytes_before c bs → fields c bs ≡ bs ∷ []) → fields c (b ∷ bs) ≡ (b ∷ bs) ∷ []
    go true q l f = let k : suc (length bs) ≤ 0 = rw q at l in absurd (omega arith)
    go false q l f = let k : suc (length bs) ≤ suc (bytes_before c bs) = rw q at l in rw (q, f (omega arith))

-- a list that starts with the key
pub key_starts : (key s : List ℕ) → starts_with eqb s key ≡ is_some (after_key key s)
key_starts [] s = refl
key_starts (k ∷ ks) [] = refl
key_starts (k ∷ ks) (b ∷ bs) = go (eqb k b) refl (key_starts ks bs)
  where
    go : (t : Bool) → eqb k b ≡ t → starts_with eqb bs ks ≡ is_some (after_key ks bs) → starts_with eqb (b ∷ bs) (k ∷ ks) ≡ is_some (after_key (k ∷ ks) (b ∷ bs))
    go true q h = rw q h
    go false q h = rw q

-- what stands behind a key
pub behind_key : (key s : List ℕ) → is_some (after_key key s) ≡ true → (length key ≤ length s) × (after_key key s ≡ some (drop (length key) s))
behind_key [] s e = (omega arith, refl)
behind_key (k ∷ ks) [] e = true≢false (sym e)
behind_key (k ∷ ks) (b ∷ bs) e = go (eqb k b) refl e (behind_key ks bs)
  where
    go : (t : Bool) → eqb k b ≡ t → is_some (after_key (k ∷ ks) (b ∷ bs)) ≡ true → (is_some (after_key ks bs) ≡ true → (length ks ≤ length bs) × (after_key ks bs ≡ some (drop (length ks) bs)))
        → (length (k ∷ ks) ≤ length (b ∷ bs)) × (after_key (k ∷ ks) (b ∷ bs) ≡ some (drop (length (k ∷ ks)) (b ∷ bs)))
    go true q z f = let (l, r) = f (rw q at z) in (omega arith, rw (q, r))
    go false q z f = true≢false (sym (rw q at z))
