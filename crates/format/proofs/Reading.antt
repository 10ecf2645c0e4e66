-- The lines stand one behind the other: the format, line by line.
use mathlib.Core.Path.{◌≡◌, refl, ap, ap₂, ◌∙◌, sym}
use mathlib.Core.List.{List, [], ◌∷◌}
use mathlib.Core.Option.{Option, some, none}
use mathlib.Core.Bool.{Bool, true, false}
use Prim.Native.Nat.{ℕ, suc, ◌+◌, ◌-◌, ◌≤◌}
use native.Mathlib.Decide.{dec_le}
use native.Mathlib.Omega.{arith}
use lib.Dec.{eqb}
use lib.ListN.{length, drop, take, length-drop}
use borrow.Author.Tests.{eq-eqb}
use Rattle.signature.specs.Lists.{◌>>=◌, require, is_some, All, also}
use Rattle.signature.proofs.Tests.{eqb_eq, eqb_no, bind_some, none≢some, true≢false, ltb_yes}
use Rattle.table.specs.Rule.{Rule}
use Rattle.text.specs.Format.{fields, ended, after_key, key_rule, key_book}
use Rattle.numbers.specs.Bytes.{bytes_before}
use Rattle.lines.specs.Lines.{first_line}
use Rattle.lines.proofs.LineLaws.{line_was}
use Rattle.numbers.proofs.Spans.{fields_more, fields_last}

-- the lines of bytes
abbrev pub lines : List ℕ → Option (List (List ℕ))
lines bs = ended (fields 10 bs)

some_field : (c : ℕ) (bs : List ℕ) → (f : List ℕ) × (fs : List (List ℕ)) × (fields c bs ≡ f ∷ fs)
some_field c bs = go (dec_le (length bs) (bytes_before c bs))
  where
    go : Dec (length bs ≤ bytes_before c bs) → (f : List ℕ) × (fs : List (List ℕ)) × (fields c bs ≡ f ∷ fs)
    go (yes h) = (bs, [], fields_last c bs h)
    go (no h) = (take (bytes_before c bs) bs, fields c (drop (suc (bytes_before c bs)) bs), fields_more c bs (omega arith))

-- the first line, then the others
lines_first : (bs l : List ℕ) → first_line bs ≡ some l → lines bs ≡ (lines (drop (length l + 1) bs) >>= λ ls. some (l ∷ ls))
lines_first bs l e =
    let (n, h, w) = line_was bs l e in
    let i : suc (bytes_before 10 bs) ≡ length l + 1 = omega arith in
    ap ended (fields_more 10 bs (omega arith) ∙ ap₂ (λ f j. f ∷ fields 10 (drop j bs)) (sym w) i) ∙ go (some_field 10 (drop (length l + 1) bs))
  where
    go : (f : List ℕ) × (fs : List (List ℕ)) × (fields 10 (drop (length l + 1) bs) ≡ f ∷ fs) → ended (l ∷ fields 10 (drop (length l + 1) bs)) ≡ (ended (fields 10 (drop (length l + 1) bs)) >>= λ ls. some (l ∷ ls))
    go (f, fs, q) = rw q

no_line : (bs : List ℕ) → first_line bs ≡ none → length bs ≤ bytes_before 10 bs
unfolding first_line
no_line bs e = go (dec_le (length bs) (bytes_before 10 bs))
  where
    go : Dec (length bs ≤ bytes_before 10 bs) → length bs ≤ bytes_before 10 bs
    go (yes h) = h
    go (no h) = none≢some (sym e ∙ ap (λ b. require b >>= λ u. some (take (bytes_before 10 bs) bs)) (ltb_yes (bytes_before 10 bs) (length bs) (omega arith)))

-- no line, or bytes without a newline
pub no_lines : (bs : List ℕ) → first_line bs ≡ none → {A : Type 0} (f : List (List ℕ) → Option A) → f [] ≡ none → (lines bs >>= f) ≡ none
no_lines bs e f q = ap (λ fs. ended fs >>= f) (fields_last 10 bs (no_line bs e)) ∙ go bs
  where
    go : (xs : List ℕ) → (ended (xs ∷ []) >>= f) ≡ none
    go [] = q
    go (x ∷ xs) = refl

-- bytes that are not empty have no empty list of lines
some_line : (b : ℕ) (bs : List ℕ) → lines (b ∷ bs) ≡ some [] → ⊥
some_line b bs e = go (dec_le (length (b ∷ bs)) (bytes_before 10 (b ∷ bs)))
  where
    go : Dec (length (b ∷ bs) ≤ bytes_before 10 (b ∷ bs)) → ⊥
    go (yes h) = none≢some (sym (ap ended (fields_last 10 (b ∷ bs) h)) ∙ e)
    go (no h) = more (some_field 10 (drop (suc (bytes_before 10 (b ∷ bs))) (b ∷ bs)))
      where
        more : (f : List ℕ) × (fs : List (List ℕ)) × (fields 10 (drop (suc (bytes_before 10 (b ∷ bs))) (b ∷ bs)) ≡ f ∷ fs) → ⊥
        more (f, fs, q) =
            let w : ended (take (bytes_before 10 (b ∷ bs)) (b ∷ bs) ∷ (f ∷ fs)) ≡ some [] = sym (ap ended (fields_more 10 (b ∷ bs) (omega arith) ∙ ap (λ x. take (bytes_before 10 (b ∷ bs)) (b ∷ bs) ∷ x) q)) ∙ e in
            let (ls, e₁, e₂) = bind_some (ended (f ∷ fs)) (λ ls. some (take (bytes_before 10 (b ∷ bs)) (b ∷ bs) ∷ ls)) [] w in
            let z : ◌≡◌ {A = ℕ} 0 1 = cc in
            omega arith

-- a key without a newline, in the first line or in the bytes
pub key_line : (key bs : List ℕ) → All (λ k. eqb k 10 ≡ false) key → is_some (after_key key (take (bytes_before 10 bs) bs)) ≡ is_some (after_key key bs)
key_line [] bs h = refl
key_line (k ∷ ks) [] h = refl
key_line (k ∷ ks) (b ∷ bs) (also x p ps) = go (eqb b 10) refl (eqb k b) refl (key_line ks bs ps)
  where
    go : (t : Bool) → eqb b 10 ≡ t → (u : Bool) → eqb k b ≡ u → is_some (after_key ks (take (bytes_before 10 bs) bs)) ≡ is_some (after_key ks bs)
        → is_some (after_key (k ∷ ks) (take (bytes_before 10 (b ∷ bs)) (b ∷ bs))) ≡ is_some (after_key (k ∷ ks) (b ∷ bs))
    go true q u r f = let z : eqb k b ≡ false = ap (eqb k) (eqb_eq b 10 q) ∙ p in rw (q, z)
    go false q true r f = rw (q, r) f
    go false q false r f = rw (q, r)

-- "after sig= or pat= that is rule= or book=": only one of the keys stands there
pub not_book : (l : List ℕ) → is_some (after_key key_rule l) ≡ true → after_key key_book l ≡ none
not_book [] e = refl
not_book (b ∷ bs) e = go (eqb 114 b) refl e
  where
    go : (t : Bool) → eqb 114 b ≡ t → is_some (after_key key_rule (b ∷ bs)) ≡ true → after_key key_book (b ∷ bs) ≡ none
    go true q z = rw (← eqb_eq 114 b q)
    go false q z = true≢false (sym (rw q at z))

abbrev pub Rest : Type 0
Rest = List Rule × List ℕ

-- the rule of three lines before what is left
abbrev pub with_rule : Option ℕ → Option ℕ → Option (List ℕ) → Option Rest → Option Rest
with_rule o p w r = o >>= λ n. p >>= λ q. w >>= λ ws. r >>= λ s. some (record { number = n; plan = q; pattern = ws } ∷ s.0, s.1)

pub no_rest : (o p : Option ℕ) (w : Option (List ℕ)) → with_rule o p w none ≡ none
no_rest none p w = refl
no_rest (some n) none w = refl
no_rest (some n) (some q) none = refl
no_rest (some n) (some q) (some ws) = refl

pub lines_step : (bs l : List ℕ) → first_line bs ≡ some l → {A : Type 0} (f : List (List ℕ) → Option A) → (lines bs >>= f) ≡ (lines (drop (length l + 1) bs) >>= λ ls. f (l ∷ ls))
lines_step bs l e f = ap (λ o. o >>= f) (lines_first bs l e) ∙ go (lines (drop (length l + 1) bs))
  where
    go : (o : Option (List (List ℕ))) → ((o >>= λ ls. some (l ∷ ls)) >>= f) ≡ (o >>= λ ls. f (l ∷ ls))
    go none = refl
    go (some ls) = refl

-- a line that stands alone: no line stands behind it
module _ (bs l : List ℕ) (e : first_line bs ≡ some l) {A : Type 0} (f : List (List ℕ) → Option A) (alone : (m : List ℕ) (ls : List (List ℕ)) → f (l ∷ (m ∷ ls)) ≡ none) where
  more_lines : (b : ℕ) (ys : List ℕ) → (o : Option (List (List ℕ))) → lines (b ∷ ys) ≡ o → (o >>= λ ls. f (l ∷ ls)) ≡ none
  more_lines b ys none q = refl
  more_lines b ys (some []) q = absurd (some_line b ys q)
  more_lines b ys (some (m ∷ ls)) q = alone m ls

  left : length (drop (length l + 1) bs) ≡ length bs - (length l + 1)
  left = length-drop (length l + 1) bs

  rest : (xs : List ℕ) → drop (length l + 1) bs ≡ xs → (lines xs >>= λ ls. f (l ∷ ls)) ≡ (require (eqb (length l + 1) (length bs)) >>= λ u. f (l ∷ []))
  rest [] q = rw (eq-eqb (length l + 1) (length bs) (omega (arith, left, ap length q, (line_was bs l e).1)))
  rest (b ∷ ys) q = more_lines b ys (lines (b ∷ ys)) refl ∙ rw (eqb_no (length l + 1) (length bs) (λ z. omega (arith, left, ap length q)))

  pub last_line : (lines bs >>= f) ≡ (require (eqb (length l + 1) (length bs)) >>= λ u. f (l ∷ []))
  last_line = lines_step bs l e f ∙ rest (drop (length l + 1) bs) refl
