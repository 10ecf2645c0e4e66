-- The ends of a node 4, one by one: whether they rise to the last level, and which is the first not below a level.
use mathlib.Core.Path.{◌≡◌, refl, sym, ap, ◌∙◌}
use mathlib.Core.List.{List, [], ◌∷◌}
use mathlib.Core.Bool.{Bool, true, false, ◌&&◌, cond}
use Prim.Native.Nat.{ℕ, suc, ◌+◌, ◌-◌, ◌≤◌, ◌<◌}
use native.Mathlib.Decide.{dec_le}
use native.Mathlib.Numerals.{add-one}
use native.Mathlib.Omega.{arith}
use lib.Dec.{eqb, leb, ltb}
use Rattle.std.specs.Prelude.{Option as Answer, Some, None, unwrap_or, position}
use Rattle.std.specs.List.{position_or_len}
use lib.ListN.{length, drop, get_or, length-drop}
use lib.Seq.{drop-cons}
use Rattle.signature.proofs.Booleans.{and_false}
use Rattle.signature.proofs.Tests.{eqb_eq, leb_yes, leb_no, ltb_yes, ltb_no, le_of}
use Rattle.tree.specs.Run.{rise_to, place_of}

-- no end behind the last
rise_high : (last m : ℕ) (es : List ℕ) → last < m → rise_to last m es ≡ false
rise_high last m [] l = refl
rise_high last m (e ∷ []) l = go (leb m e) (eqb e last) refl refl
  where
    go : (a b : Bool) → leb m e ≡ a → eqb e last ≡ b → (leb m e && eqb e last) ≡ false
    go a true p q = let z : e < m = omega (arith, eqb_eq e last q) in rw (leb_no m e z)
    go a false p q = rw q (and_false (leb m e))
rise_high last m (e ∷ (f ∷ es)) l = go (leb m e) refl (λ h. rise_high last (suc e) (f ∷ es) h)
  where
    go : (a : Bool) → leb m e ≡ a → (last < suc e → rise_to last (suc e) (f ∷ es) ≡ false) → (leb m e && rise_to last (suc e) (f ∷ es)) ≡ false
    go true p h = rw (p, h (omega (arith, le_of m e p)))
    go false p h = rw p

-- the ends from number i on
module _ (last : ℕ) (es : List ℕ) where
  abbrev pub Rest : ℕ → ℕ → Type 0
  Rest i m = (m ≤ last) × (rise_to last 0 es ≡ rise_to last m (drop i es))

  pub no_ends : length es ≡ 0 → false ≡ rise_to last 0 es
  no_ends l = go es l
    where
      go : (ds : List ℕ) → length ds ≡ 0 → false ≡ rise_to last 0 ds
      go [] q = refl
      go (x ∷ ds) q = absurd (omega arith)

  pub rest_first : Rest 0 0
  rest_first = (omega arith, refl)

  module _ (i m : ℕ) (h : Rest i m) (l : i + 1 < length es) where
    more : (d : ℕ) (ds : List ℕ) → length ds ≡ length es - (i + 1) → rise_to last m (d ∷ ds) ≡ (leb m d && rise_to last (suc d) ds)
    more d [] q = absurd (omega arith)
    more d (x ∷ ds) q = refl

    next : rise_to last 0 es ≡ (leb m (get_or es i 0) && rise_to last (suc (get_or es i 0)) (drop (i + 1) es))
    next = h.1 ∙ ap (rise_to last m) (drop-cons es i 0 (omega arith)) ∙ rw (← add-one i) (more (get_or es i 0) (drop (i + 1) es) (length-drop (i + 1) es))

    pub falls : get_or es i 0 < m → false ≡ rise_to last 0 es
    falls q = sym (next ∙ rw (leb_no m (get_or es i 0) q))

    pub too_high : last ≤ get_or es i 0 → false ≡ rise_to last 0 es
    too_high q = sym (next ∙ rw (rise_high last (suc (get_or es i 0)) (drop (i + 1) es) (omega arith)) (and_false (leb m (get_or es i 0))))

    pub rest_next : m ≤ get_or es i 0 → get_or es i 0 < last → Rest (i + 1) (get_or es i 0 + 1)
    rest_next q r = (omega arith, next ∙ rw (leb_yes m (get_or es i 0) q, add-one (get_or es i 0)))

  one_left : (i m : ℕ) → Rest i m → i + 1 ≡ length es → eqb (get_or es i 0) last ≡ rise_to last 0 es
  one_left i m h l = sym (h.1 ∙ ap (rise_to last m) (drop-cons es i 0 (omega arith)) ∙ rw (one (drop (suc i) es) (length-drop (suc i) es)) (go (eqb (get_or es i 0) last) refl))
    where
      one : (ds : List ℕ) → length ds ≡ length es - suc i → ds ≡ []
      one [] q = refl
      one (x ∷ ds) q = absurd (omega arith)

      go : (b : Bool) → eqb (get_or es i 0) last ≡ b → (leb m (get_or es i 0) && eqb (get_or es i 0) last) ≡ eqb (get_or es i 0) last
      go true q = let z : m ≤ get_or es i 0 = omega (arith, eqb_eq (get_or es i 0) last q, h.0) in rw (leb_yes m (get_or es i 0) z)
      go false q = rw q (and_false (leb m (get_or es i 0)))

  pub rest_last : (i m : ℕ) → Rest i m → i + 1 ≤ length es → length es - 1 ≤ i → eqb (get_or es (length es - 1) 0) last ≡ rise_to last 0 es
  rest_last i m h l k = let q : length es - 1 ≡ i = omega arith in rw q (one_left i m h (omega arith))

-- where the first end stands that is not below v
pub place_most : (v : ℕ) (es : List ℕ) → place_of v es ≤ length es
place_most v [] = omega arith
place_most v (e ∷ es) = go (leb v e) (place_most v es)
  where
    go : (b : Bool) → place_of v es ≤ length es → cond b 0 (suc (place_of v es)) ≤ suc (length es)
    go true h = omega arith
    go false h = omega arith

place_len : (v : ℕ) (es : List ℕ) → position_or_len (λ e. leb v e) es ≡ place_of v es
place_len v [] = refl
place_len v (e ∷ es) = go (leb v e) refl (place_len v es)
  where
    go : (b : Bool) → leb v e ≡ b → position_or_len (λ d. leb v d) es ≡ place_of v es → position_or_len (λ d. leb v d) (e ∷ es) ≡ place_of v (e ∷ es)
    go true q h = rw q
    go false q h = rw (q, h) (omega arith)

pub place_found : (v : ℕ) (es : List ℕ) (place : Answer ℕ) (n : ℕ) → place ≡ position (λ e. leb v e) es → n ≡ unwrap_or place (length es) → n ≡ place_of v es
place_found v es place n p q = q ∙ ap (λ o. unwrap_or o (length es)) p ∙ ap (λ k. unwrap_or (cond (ltb k (length es)) (Some k) None) (length es)) (place_len v es) ∙ go (dec_le (length es) (place_of v es))
  where
    go : Dec (length es ≤ place_of v es) → unwrap_or (cond (ltb (place_of v es) (length es)) (Some (place_of v es)) None) (length es) ≡ place_of v es
    go (yes h) = rw (ltb_no (place_of v es) (length es) h) (omega (arith, place_most v es))
    go (no h) = rw (ltb_yes (place_of v es) (length es) (omega arith))
