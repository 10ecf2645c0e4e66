-- Numbers in decimal, read and printed.
use mathlib.Core.Path.{◌≡◌, ap, ◌∙◌, refl, sym, ap₂}
use mathlib.Core.List.{List, ◌∷◌, []}
use mathlib.Core.Option.{some}
use mathlib.Core.Bool.{true, false, ◌&&◌, not}
use Prim.Native.Nat.{ℕ, ◌+◌, ◌/◌, ◌%◌, ◌<◌, ◌≤◌, suc}
use native.Mathlib.Decide.{dec_le}
use native.Mathlib.Omega.{arith}
use lib.Dec.{leb, eqb}
use lib.ListN.{length}
use Rattle.signature.specs.Lists.{all, require}
use Rattle.signature.proofs.Booleans.{and_left, and_right}
use Rattle.signature.proofs.Tests.{ltb_yes, ltb_no, leb_yes, le_of, eqb_no, bind_some, require_some, some_inj, true≢false, eqb_self}
use Rattle.text.specs.Format.{digit, leading_zero, worth, number}
use Rattle.text.specs.Limits.{last_word}
use Rattle.text.specs.Print.{decimal}

-- numbers in decimal
abbrev ds_1 : ℕ → List ℕ
ds_1 n = (48 + n) ∷ []

abbrev ds_2 : ℕ → List ℕ
ds_2 n = (48 + n / 10) ∷ ((48 + n % 10) ∷ [])

abbrev ds_3 : ℕ → List ℕ
ds_3 n = (48 + n / 10 / 10) ∷ ((48 + n / 10 % 10) ∷ ((48 + n % 10) ∷ []))

abbrev ds_4 : ℕ → List ℕ
ds_4 n = (48 + n / 10 / 10 / 10) ∷ ((48 + n / 10 / 10 % 10) ∷ ((48 + n / 10 % 10) ∷ ((48 + n % 10) ∷ [])))

abbrev ds_5 : ℕ → List ℕ
ds_5 n = (48 + n / 10 / 10 / 10 / 10) ∷ ((48 + n / 10 / 10 / 10 % 10) ∷ ((48 + n / 10 / 10 % 10) ∷ ((48 + n / 10 % 10) ∷ ((48 + n % 10) ∷ []))))

dec_1 : (n : ℕ) → n < 10 → decimal n ≡ ds_1 n
dec_1 n a = rw (ltb_yes n 10 a)

dec_2 : (n : ℕ) → 10 ≤ n → n < 100 → decimal n ≡ ds_2 n
dec_2 n a b = rw (ltb_no n 10 a, ltb_yes (n / 10) 10 (omega arith))

dec_3 : (n : ℕ) → 100 ≤ n → n < 1000 → decimal n ≡ ds_3 n
dec_3 n a b = rw (ltb_no n 10 (omega arith), ltb_no (n / 10) 10 (omega arith), ltb_yes (n / 10 / 10) 10 (omega arith))

dec_4 : (n : ℕ) → 1000 ≤ n → n < 10000 → decimal n ≡ ds_4 n
dec_4 n a b = rw (ltb_no n 10 (omega arith), ltb_no (n / 10) 10 (omega arith), ltb_no (n / 10 / 10) 10 (omega arith), ltb_yes (n / 10 / 10 / 10) 10 (omega arith))

dec_5 : (n : ℕ) → 10000 ≤ n → n < 100000 → decimal n ≡ ds_5 n
dec_5 n a b = rw (ltb_no n 10 (omega arith), ltb_no (n / 10) 10 (omega arith), ltb_no (n / 10 / 10) 10 (omega arith), ltb_no (n / 10 / 10 / 10) 10 (omega arith), ltb_yes (n / 10 / 10 / 10 / 10) 10 (omega arith))

is_digit : (d : ℕ) → d < 10 → digit (48 + d) ≡ true
is_digit d l = rw (leb_yes 48 (48 + d) (omega arith), leb_yes (48 + d) 57 (omega arith))

digit_is : (b : ℕ) → digit b ≡ true → (48 ≤ b) × (b ≤ 57)
digit_is b e = (le_of 48 b (and_left (leb 48 b) (leb b 57) e), le_of b 57 (and_right (leb 48 b) (leb b 57) e))

number_of : (bs : List ℕ) (n : ℕ) → 1 ≤ length bs → length bs ≤ 5 → all digit bs ≡ true → leading_zero bs ≡ false → worth 0 bs ≡ n → n ≤ last_word → number bs ≡ some n
number_of bs n a b c d e f = rw (leb_yes 1 (length bs) a, leb_yes (length bs) 5 b, c, d, e, leb_yes n last_word f)

pub number_decimal : (n : ℕ) → n ≤ last_word → number (decimal n) ≡ some n
number_decimal n l = go₁ (dec_le (suc n) 10)
  where
    zero_no : (d : ℕ) → 1 ≤ d → eqb (48 + d) 48 ≡ false
    zero_no d m = eqb_no (48 + d) 48 (λ e. omega arith)

    go₄ : Dec (n < 10000) → 1000 ≤ n → number (decimal n) ≡ some n
    go₄ (yes h) m = ap number (dec_4 n m h) ∙ number_of (ds_4 n) n (omega arith) (omega arith) (rw (is_digit (n / 10 / 10 / 10) (omega arith), is_digit (n / 10 / 10 % 10) (omega arith), is_digit (n / 10 % 10) (omega arith), is_digit (n % 10) (omega arith))) (zero_no (n / 10 / 10 / 10) (omega arith)) (omega arith) l
    go₄ (no h) m = ap number (dec_5 n (omega arith) (omega arith)) ∙ number_of (ds_5 n) n (omega arith) (omega arith) (rw (is_digit (n / 10 / 10 / 10 / 10) (omega arith), is_digit (n / 10 / 10 / 10 % 10) (omega arith), is_digit (n / 10 / 10 % 10) (omega arith), is_digit (n / 10 % 10) (omega arith), is_digit (n % 10) (omega arith))) (zero_no (n / 10 / 10 / 10 / 10) (omega arith)) (omega arith) l

    go₃ : Dec (n < 1000) → 100 ≤ n → number (decimal n) ≡ some n
    go₃ (yes h) m = ap number (dec_3 n m h) ∙ number_of (ds_3 n) n (omega arith) (omega arith) (rw (is_digit (n / 10 / 10) (omega arith), is_digit (n / 10 % 10) (omega arith), is_digit (n % 10) (omega arith))) (zero_no (n / 10 / 10) (omega arith)) (omega arith) l
    go₃ (no h) m = go₄ (dec_le (suc n) 10000) (omega arith)

    go₂ : Dec (n < 100) → 10 ≤ n → number (decimal n) ≡ some n
    go₂ (yes h) m = ap number (dec_2 n m h) ∙ number_of (ds_2 n) n (omega arith) (omega arith) (rw (is_digit (n / 10) (omega arith), is_digit (n % 10) (omega arith))) (zero_no (n / 10) (omega arith)) (omega arith) l
    go₂ (no h) m = go₃ (dec_le (suc n) 1000) (omega arith)

    go₁ : Dec (n < 10) → number (decimal n) ≡ some n
    go₁ (yes h) = ap number (dec_1 n h) ∙ number_of (ds_1 n) n (omega arith) (omega arith) (rw (is_digit n h)) refl (omega arith) l
    go₁ (no h) = go₂ (dec_le (suc n) 100) (omega arith)

-- a number that is read is in decimal
pub decimal_number : (bs : List ℕ) (n : ℕ) → number bs ≡ some n → (bs ≡ decimal n) × (n ≤ last_word)
decimal_number bs n e =
    let (u, e₁, e₂) = bind_some (require (leb 1 (length bs) && leb (length bs) 5 && all digit bs && not (leading_zero bs) && leb (worth 0 bs) last_word)) _ n e in
    let t₁ = leb 1 (length bs) in
    let t₂ = leb (length bs) 5 in
    let t₃ = all digit bs in
    let t₄ = not (leading_zero bs) in
    let t₅ = leb (worth 0 bs) last_word in
    let h : (t₁ && t₂ && t₃ && t₄ && t₅) ≡ true = require_some (t₁ && t₂ && t₃ && t₄ && t₅) u e₁ in
    let h₄ : (t₁ && t₂ && t₃ && t₄) ≡ true = and_left (t₁ && t₂ && t₃ && t₄) t₅ h in
    let h₃ : (t₁ && t₂ && t₃) ≡ true = and_left (t₁ && t₂ && t₃) t₄ h₄ in
    let h₂ : (t₁ && t₂) ≡ true = and_left (t₁ && t₂) t₃ h₃ in
    let q : worth 0 bs ≡ n = some_inj (worth 0 bs) n e₂ in
    (sizes bs (le_of 1 (length bs) (and_left t₁ t₂ h₂)) (le_of (length bs) 5 (and_right t₁ t₂ h₂)) (and_right (t₁ && t₂) t₃ h₃) (and_right (t₁ && t₂ && t₃) t₄ h₄) q, omega (arith, le_of (worth 0 bs) last_word (and_right (t₁ && t₂ && t₃ && t₄) t₅ h)))
  where
    not_zero : (b : ℕ) → not (eqb b 48) ≡ true → ¬ (b ≡ 48)
    not_zero b z p = true≢false (sym z ∙ ap not (ap (λ x. eqb x 48) p ∙ eqb_self 48))

    digit_1 : (b : ℕ) (bs : List ℕ) → all digit (b ∷ bs) ≡ true → (48 ≤ b) × (b ≤ 57) × (all digit bs ≡ true)
    digit_1 b bs z = let (x, y) = digit_is b (and_left (digit b) (all digit bs) z) in (x, y, and_right (digit b) (all digit bs) z)

    sizes : (bs : List ℕ) → 1 ≤ length bs → length bs ≤ 5 → all digit bs ≡ true → not (leading_zero bs) ≡ true → worth 0 bs ≡ n → bs ≡ decimal n
    sizes [] a b c d q = absurd (omega arith)
    sizes (v ∷ []) a b c d q =
        let (v₁, v₂, c₁) = digit_1 v [] c in
        let z : v ≡ 48 + n = omega arith in
        ap (λ x. x ∷ []) z ∙ sym (dec_1 n (omega arith))
    sizes (v ∷ (w ∷ [])) a b c d q =
        let (v₁, v₂, c₁) = digit_1 v (w ∷ []) c in
        let (w₁, w₂, c₂) = digit_1 w [] c₁ in
        let nz : ¬ (v ≡ 48) = not_zero v d in
        let y : v ≡ 48 + n / 10 = omega arith in
        let z : w ≡ 48 + n % 10 = omega arith in
        ap₂ (λ x₁ x₂. x₁ ∷ (x₂ ∷ [])) y z ∙ sym (dec_2 n (omega arith) (omega arith))
    sizes (v ∷ (w ∷ (x ∷ []))) a b c d q =
        let (v₁, v₂, c₁) = digit_1 v (w ∷ (x ∷ [])) c in
        let (w₁, w₂, c₂) = digit_1 w (x ∷ []) c₁ in
        let (x₁, x₂, c₃) = digit_1 x [] c₂ in
        let nz : ¬ (v ≡ 48) = not_zero v d in
        let r₁ : v ≡ 48 + n / 10 / 10 = omega arith in
        let r₂ : w ≡ 48 + n / 10 % 10 = omega arith in
        let r₃ : x ≡ 48 + n % 10 = omega arith in
        ap₂ (λ y ys. y ∷ ys) r₁ (ap₂ (λ y₁ y₂. y₁ ∷ (y₂ ∷ [])) r₂ r₃) ∙ sym (dec_3 n (omega arith) (omega arith))
    sizes (v ∷ (w ∷ (x ∷ (y ∷ [])))) a b c d q =
        let (v₁, v₂, c₁) = digit_1 v (w ∷ (x ∷ (y ∷ []))) c in
        let (w₁, w₂, c₂) = digit_1 w (x ∷ (y ∷ [])) c₁ in
        let (x₁, x₂, c₃) = digit_1 x (y ∷ []) c₂ in
        let (y₁, y₂, c₄) = digit_1 y [] c₃ in
        let nz : ¬ (v ≡ 48) = not_zero v d in
        let r₁ : v ≡ 48 + n / 10 / 10 / 10 = omega arith in
        let r₂ : w ≡ 48 + n / 10 / 10 % 10 = omega arith in
        let r₃ : x ≡ 48 + n / 10 % 10 = omega arith in
        let r₄ : y ≡ 48 + n % 10 = omega arith in
        ap₂ (λ s ss. s ∷ ss) r₁ (ap₂ (λ s ss. s ∷ ss) r₂ (ap₂ (λ s t. s ∷ (t ∷ [])) r₃ r₄)) ∙ sym (dec_4 n (omega arith) (omega arith))
    sizes (v ∷ (w ∷ (x ∷ (y ∷ (z ∷ []))))) a b c d q =
        let (v₁, v₂, c₁) = digit_1 v (w ∷ (x ∷ (y ∷ (z ∷ [])))) c in
        let (w₁, w₂, c₂) = digit_1 w (x ∷ (y ∷ (z ∷ []))) c₁ in
        let (x₁, x₂, c₃) = digit_1 x (y ∷ (z ∷ [])) c₂ in
        let (y₁, y₂, c₄) = digit_1 y (z ∷ []) c₃ in
        let (z₁, z₂, c₅) = digit_1 z [] c₄ in
        let nz : ¬ (v ≡ 48) = not_zero v d in
        let r₁ : v ≡ 48 + n / 10 / 10 / 10 / 10 = omega arith in
        let r₂ : w ≡ 48 + n / 10 / 10 / 10 % 10 = omega arith in
        let r₃ : x ≡ 48 + n / 10 / 10 % 10 = omega arith in
        let r₄ : y ≡ 48 + n / 10 % 10 = omega arith in
        let r₅ : z ≡ 48 + n % 10 = omega arith in
        ap₂ (λ s ss. s ∷ ss) r₁ (ap₂ (λ s ss. s ∷ ss) r₂ (ap₂ (λ s ss. s ∷ ss) r₃ (ap₂ (λ s t. s ∷ (t ∷ [])) r₄ r₅))) ∙ sym (dec_5 n (omega arith) (omega arith))
    sizes (v ∷ (w ∷ (x ∷ (y ∷ (z ∷ (s ∷ ss)))))) a b c d q = absurd (omega arith)
