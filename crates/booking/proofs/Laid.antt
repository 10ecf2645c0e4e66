-- Open values at the end of lent words.
use mathlib.Core.Path.{◌≡◌, refl, sym, ap, subst, ◌∙◌}
use mathlib.Core.List.{List, [], ◌∷◌, ◌++◌, append_assoc}
use mathlib.Core.Bool.{Bool, true, false, cond}
use Prim.Native.Nat.{ℕ, zero, suc, ◌+◌, ◌-◌, ◌≤◌, ◌<◌}
use native.Mathlib.Decide.{dec_le}
use native.Mathlib.Omega.{arith}
use lib.Dec.{eqb, leb}
use lib.ListN.{length, take, drop, get_or, set, length-append, length-drop, take-append-drop}
use lib.Seq.{drop-cons, drop-length, take-append-le, take-take, drop_at, sets-eq, length-take-le}
use Rattle.signature.specs.Limits.{depth_limit}
use Rattle.booking.specs.Walk.{open_word, left_in, one_less, opened, rest, laid}
use Rattle.signature.proofs.Tests.{eqb_no, leb_yes, leb_no}

-- the open values, where they begin at a place
module _ (ws os : List ℕ) where
  pub length_laid : length os ≤ length ws → length (laid ws os) ≡ length ws
  length_laid h = let e : length (take (length ws - length os) ws) ≡ length ws - length os = length-take-le _ ws (omega arith) in omega (arith, length-append (take (length ws - length os) ws) os)

  pub drop_laid : (n : ℕ) → n + length os ≡ length ws → drop n (laid ws os) ≡ os
  drop_laid n e = drop_at (take (length ws - length os) ws) os n (let f : length (take (length ws - length os) ws) ≡ length ws - length os = length-take-le _ ws (omega arith) in omega arith)

  pub laid_laid : (qs : List ℕ) → length qs ≤ length os → length os ≤ length ws → laid (laid ws qs) os ≡ laid ws os
  laid_laid qs h l =
      let e : length (take (length ws - length qs) ws) ≡ length ws - length qs = length-take-le _ ws (omega arith) in
      let m : length (laid ws qs) ≡ length ws = omega (arith, length-append (take (length ws - length qs) ws) qs) in
      ap (λ n. take (n - length os) (laid ws qs) ++ os) m
      ∙ ap (λ us. us ++ os) (take-append-le (length ws - length os) (take (length ws - length qs) ws) qs (omega arith) ∙ take-take (length ws - length os) (length ws - length qs) ws (omega arith))

pub laid_at : (ws os : List ℕ) (n : ℕ) → n + length os ≡ length ws → laid ws os ≡ take n ws ++ os
laid_at ws os n e = let m : length ws - length os ≡ n = omega arith in rw m

-- nothing is written
pub laid_same : (ws : List ℕ) (at : ℕ) → at ≤ length ws → ws ≡ laid ws (drop at ws)
laid_same ws at h = sym (laid_at ws (drop at ws) at (omega (arith, length-drop at ws)) ∙ take-append-drop at ws)

-- two words are written
pub laid_two : (ws : List ℕ) (a p x : ℕ) → a + 2 ≤ length ws → set (set ws a p) (a + 1) x ≡ laid ws (p ∷ (x ∷ drop (a + 2) ws))
laid_two ws a p x h =
    let e : a + 1 ≡ suc a = omega arith in
    rw e (sets-eq (p ∷ (x ∷ [])) ws a (omega arith) ∙ append_assoc (take a ws) (p ∷ (x ∷ [])) (drop (a + 2) ws)) ∙ sym (laid_at ws (p ∷ (x ∷ drop (a + 2) ws)) a (omega (arith, length-drop (a + 2) ws)))

-- the innermost open value
pub front : (ws : List ℕ) (at : ℕ) → at + 2 ≤ length ws → drop at ws ≡ get_or ws at 0 ∷ (get_or ws (at + 1) 0 ∷ drop (at + 2) ws)
front ws at h =
    let e : suc at ≡ at + 1 = omega arith in
    let f : suc (at + 1) ≡ at + 2 = omega arith in
    drop-cons ws at 0 (omega arith) ∙ ap (λ us. get_or ws at 0 ∷ us) (ap (λ n. drop n ws) e ∙ drop-cons ws (at + 1) 0 (omega arith) ∙ ap (λ n. get_or ws (at + 1) 0 ∷ drop n ws) f)

-- the open values lie behind the words of the slice that stay, which end at r
abbrev Lies : List ℕ → List ℕ → List ℕ → ℕ → Type 0
Lies ws ws' os r = record { left : ws' ≡ laid ws os; place : r + length os ≡ length ws }

pub lies_same : (ws : List ℕ) (at : ℕ) → at ≤ length ws → Lies ws ws (drop at ws) at
lies_same ws at h = record { left = laid_same ws at h; place = omega (arith, length-drop at ws) }

lies_two : (ws : List ℕ) (a p x : ℕ) → a + 2 ≤ length ws → Lies ws (set (set ws a p) (a + 1) x) (p ∷ (x ∷ drop (a + 2) ws)) a
lies_two ws a p x h = record { left = laid_two ws a p x h; place = omega (arith, length-drop (a + 2) ws) }

-- the arguments of a head
module _ (ws : List ℕ) (at p m deep : ℕ) where
  pub opens_none : m ≡ 0 → at ≤ length ws → Lies ws ws (opened p m deep (drop at ws)) at
  opens_none e h = rw e (lies_same ws at h)

  pub opens : (m ≡ 0 → ⊥) → 2 ≤ at → at ≤ length ws → Lies ws (set (set ws (at - 2) p) (at - 1) (open_word m deep)) (opened p m deep (drop at ws)) (at - 2)
  opens n h l =
      let e : at - 2 + 1 ≡ at - 1 = omega arith in
      let f : at - 2 + 2 ≡ at = omega arith in
      rw (eqb_no m 0 n) (rw (e, f) at (lies_two ws (at - 2) p (open_word m deep) (omega arith)))

-- one argument less
module _ (ws : List ℕ) (at i : ℕ) where
  pub reads_first : i ≡ 0 → Lies ws ws (rest i (drop at ws)) (length ws)
  reads_first e = rw e (subst (λ os. Lies ws ws os (length ws)) (drop-length ws) (lies_same ws (length ws) (omega arith)))

  rest_is : (i ≡ 0 → ⊥) → at + 2 ≤ length ws → rest i (drop at ws) ≡ one_less (get_or ws at 0 ∷ (get_or ws (at + 1) 0 ∷ drop (at + 2) ws))
  rest_is n l = go i n ∙ ap one_less (front ws at l)
    where
      go : (i : ℕ) → (i ≡ 0 → ⊥) → rest i (drop at ws) ≡ one_less (drop at ws)
      go zero h = absurd (h refl)
      go (suc i) h = refl

  pub reads_last : (i ≡ 0 → ⊥) → at + 2 ≤ length ws → left_in (get_or ws (at + 1) 0) ≤ 1 → Lies ws ws (rest i (drop at ws)) (at + 2)
  reads_last n l h = rw (rest_is n l, leb_yes (left_in (get_or ws (at + 1) 0)) 1 h) (lies_same ws (at + 2) l)

  pub reads_one : (i ≡ 0 → ⊥) → at + 2 ≤ length ws → 1 < left_in (get_or ws (at + 1) 0) → Lies ws (set (set ws at (get_or ws at 0 + 1)) (at + 1) (get_or ws (at + 1) 0 - depth_limit)) (rest i (drop at ws)) at
  reads_one n l h =
      let e : get_or ws at 0 + 1 ≡ suc (get_or ws at 0) = omega arith in
      rw (rest_is n l, leb_no (left_in (get_or ws (at + 1) 0)) 1 h, e) (lies_two ws at (suc (get_or ws at 0)) (get_or ws (at + 1) 0 - depth_limit) l)

-- a head opens one value at most
opened_longer : (p m deep : ℕ) (os : List ℕ) → length os ≤ length (opened p m deep os)
opened_longer p m deep os = go (eqb m 0)
  where
    go : (b : Bool) → length os ≤ length (cond b os (p ∷ (open_word m deep ∷ os)))
    go true = omega arith
    go false = omega arith

pub opened_short : (p m deep : ℕ) (os : List ℕ) → length (opened p m deep os) ≤ length os + 2
opened_short p m deep os = go (eqb m 0)
  where
    go : (b : Bool) → length (cond b os (p ∷ (open_word m deep ∷ os))) ≤ length os + 2
    go true = omega arith
    go false = omega arith

-- and with a value read nothing more is open
less_shorter : (os : List ℕ) → length (one_less os) ≤ length os
less_shorter [] = omega arith
less_shorter (p ∷ []) = omega arith
less_shorter (p ∷ (x ∷ os)) = go (leb (left_in x) 1)
  where
    go : (b : Bool) → length (cond b os (suc p ∷ ((x - depth_limit) ∷ os))) ≤ length (p ∷ (x ∷ os))
    go true = omega arith
    go false = omega arith

pub rest_shorter : (i : ℕ) (os : List ℕ) → length (rest i os) ≤ length os
rest_shorter zero os = omega arith
rest_shorter (suc i) os = less_shorter os

-- first one argument less, then those of the head
module _ (ws us : List ℕ) (at i a : ℕ) (l : at ≤ length ws) (e : us ≡ laid ws (rest i (drop at ws))) (f : a + length (rest i (drop at ws)) ≡ length ws) where
  kept : length us ≡ length ws
  kept = ap length e ∙ length_laid ws (rest i (drop at ws)) (omega arith)

  pub behind_fits : 2 ≤ length ws → (0 < i → 2 ≤ at) → (2 ≤ a) × (a ≤ length us)
  behind_fits m h = (go (dec_le i 0), omega (arith, kept))
    where
      none_open : (i : ℕ) → i ≤ 0 → length (rest i (drop at ws)) ≡ 0
      none_open zero q = refl
      none_open (suc i) q = absurd (omega arith)

      go : Dec (i ≤ 0) → 2 ≤ a
      go (yes q) = omega (arith, none_open i q)
      go (no q) = omega (arith, h (omega arith), rest_shorter i (drop at ws), length-drop at ws)

  pub advanced : (vs : List ℕ) (r p m deep : ℕ) → vs ≡ laid us (opened p m deep (drop a us)) → r + length (opened p m deep (drop a us)) ≡ length us → Lies ws vs (opened p m deep (rest i (drop at ws))) r
  advanced vs r p m deep g h =
      let b : drop a us ≡ rest i (drop at ws) = ap (drop a) e ∙ drop_laid ws (rest i (drop at ws)) a f in
      let os = opened p m deep (rest i (drop at ws)) in
      let h' : r + length os ≡ length us = ap (λ qs. r + length (opened p m deep qs)) (sym b) ∙ h in
      record {
        left = g ∙ ap (λ qs. laid us (opened p m deep qs)) b ∙ ap (λ zs. laid zs os) e ∙ laid_laid ws os (rest i (drop at ws)) (opened_longer p m deep (rest i (drop at ws))) (omega (arith, kept));
        place = h' ∙ kept;
      }
