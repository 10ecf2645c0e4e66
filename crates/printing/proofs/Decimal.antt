-- A number in decimal, digit by digit from its last.
use mathlib.Core.Path.{◌≡◌, refl, ap}
use mathlib.Core.List.{List, [], ◌∷◌, ◌++◌}
use mathlib.Core.Bool.{Bool, true, false, cond}
use Prim.Native.Nat.{ℕ, zero, suc, ◌+◌, ◌/◌, ◌%◌, ◌≤◌, ◌<◌}
use native.Mathlib.Decide.{dec_le}
use native.Mathlib.Omega.{arith}
use lib.Dec.{ltb}
use lib.ListN.{length, length-append, set}
use Rattle.signature.proofs.Tests.{ltb_yes, ltb_no}
use Rattle.text.specs.Limits.{last_word}
use Rattle.text.specs.Print.{decimal, digits}
use Rattle.printing.specs.Put.{Put, in_decimal}
use Rattle.printing.proofs.PutLaws.{put_one, both}

one_digit : (n : ℕ) → n < 10 → in_decimal n ≡ (48 + n) ∷ []
unfolding in_decimal
one_digit n l = rw (ltb_yes n 10 l)

more_digits : (n : ℕ) → 10 ≤ n → n ≤ last_word → in_decimal n ≡ in_decimal (n / 10) ++ ((48 + n % 10) ∷ [])
unfolding in_decimal
more_digits n a b = go₂ (dec_le (suc n) 100)
  where
    go₄ : Dec (n < 10000) → 1000 ≤ n → decimal n ≡ decimal (n / 10) ++ ((48 + n % 10) ∷ [])
    go₄ (yes h) m = rw (ltb_no n 10 a, ltb_no (n / 10) 10 (omega arith), ltb_no (n / 10 / 10) 10 (omega arith), ltb_yes (n / 10 / 10 / 10) 10 (omega arith))
    go₄ (no h) m = rw (ltb_no n 10 a, ltb_no (n / 10) 10 (omega arith), ltb_no (n / 10 / 10) 10 (omega arith), ltb_no (n / 10 / 10 / 10) 10 (omega arith), ltb_yes (n / 10 / 10 / 10 / 10) 10 (omega arith))

    go₃ : Dec (n < 1000) → 100 ≤ n → decimal n ≡ decimal (n / 10) ++ ((48 + n % 10) ∷ [])
    go₃ (yes h) m = rw (ltb_no n 10 a, ltb_no (n / 10) 10 (omega arith), ltb_yes (n / 10 / 10) 10 (omega arith))
    go₃ (no h) m = go₄ (dec_le (suc n) 10000) (omega arith)

    go₂ : Dec (n < 100) → decimal n ≡ decimal (n / 10) ++ ((48 + n % 10) ∷ [])
    go₂ (yes h) = rw (ltb_no n 10 a, ltb_yes (n / 10) 10 (omega arith))
    go₂ (no h) = go₃ (dec_le (suc n) 1000) (omega arith)

-- "1 to 5 digits"
digits_most : (f n : ℕ) (bs : List ℕ) → length (digits f n bs) ≤ f + length bs
digits_most zero n bs = omega arith
digits_most (suc f) n bs = go (ltb n 10) (digits_most f (n / 10) ((48 + n % 10) ∷ bs))
  where
    go : (b : Bool) → length (digits f (n / 10) ((48 + n % 10) ∷ bs)) ≤ f + length ((48 + n % 10) ∷ bs) → length (cond b ((48 + n) ∷ bs) (digits f (n / 10) ((48 + n % 10) ∷ bs))) ≤ suc f + length bs
    go true h = omega arith
    go false h = omega arith

pub five_digits : (n : ℕ) → length (in_decimal n) ≤ 5
unfolding in_decimal
five_digits n = omega (arith, digits_most 5 n [])

-- a number below 10
module _ (at n : ℕ) (o : List ℕ) (room : at + length (in_decimal n) ≤ length o) where
  pub digit_room : n < 10 → at < length o
  digit_room l = omega (arith, ap length (one_digit n l))

  pub digit_put : n < 10 → Put (in_decimal n) at (at + 1) o (set o at (48 + n))
  digit_put l = rw (one_digit n l) (record { behind = refl; put = put_one at o (48 + n) (digit_room l) })

  -- a larger one: its first digits, then the last
  module _ (low : 10 ≤ n) (word : n ≤ last_word) where
    pub first_room : at + length (in_decimal (n / 10)) < length o
    first_room = omega (arith, ap length (more_digits n low word), length-append (in_decimal (n / 10)) ((48 + n % 10) ∷ []))

    module _ (m : ℕ) (x : List ℕ) (p : Put (in_decimal (n / 10)) at m o x) (same : length x ≡ length o) where
      pub last_room : m < length x
      last_room = omega (arith, p.behind, first_room)

      pub last_put : Put (in_decimal n) at (m + 1) o (set x m (48 + n % 10))
      last_put =
          let e = more_digits n low word in
          rw e (both p (record { behind = refl; put = put_one m x (48 + n % 10) last_room }) (omega (arith, room, ap length e)))
