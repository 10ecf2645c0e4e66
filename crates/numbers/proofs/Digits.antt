-- Digits that are left, and what an answer says of a number.
use mathlib.Core.Path.{◌≡◌, refl, ap, ◌∙◌}
use mathlib.Core.List.{List, [], ◌∷◌}
use mathlib.Core.Option.{Option, some, none}
use mathlib.Core.Bool.{Bool, true, false, ◌&&◌, not}
use Prim.Native.Nat.{ℕ, ◌≤◌, ◌<◌}
use native.Mathlib.Omega.{arith}
use lib.Dec.{leb}
use lib.ListN.{length, drop}
use Rattle.std.specs.Prelude.{Some, None}
use Rattle.signature.specs.Lists.{all, require, ◌>>=◌}
use Rattle.signature.proofs.Tests.{leb_yes, leb_no}
use Rattle.text.specs.Format.{digit, worth, leading_zero, number}
use Rattle.text.specs.Limits.{last_word}
use Rattle.numbers.specs.Bytes.{worth_of, word_of}

-- what is left of the digits
pub record Left (s : List ℕ) (v i : ℕ) : Type 0 where
  pub digits_are : all digit s ≡ all digit (drop i s)
  pub worth_is : worth 0 s ≡ worth v (drop i s)

-- the tests of a number, one at a time
pub no_digits : (s : List ℕ) → length s ≡ 0 → number s ≡ none
no_digits [] e = refl
no_digits (b ∷ bs) e = absurd (omega arith)

pub many_digits : (s : List ℕ) → 5 < length s → number s ≡ none
many_digits s l = rw (leb_yes 1 (length s) (omega arith), leb_no (length s) 5 l)

module _ (s : List ℕ) (some_digit : (length s ≡ 0) → ⊥) (few_digits : length s ≤ 5) where
  tests : (a b : Bool) → leading_zero s ≡ a → all digit s ≡ b → number s ≡ (require ((b && not a) && leb (worth 0 s) last_word) >>= λ u. some (worth 0 s))
  tests a b p q = rw (leb_yes 1 (length s) (omega arith), leb_yes (length s) 5 few_digits, p, q)

  pub zero_first : leading_zero s ≡ true → number s ≡ none
  zero_first p = go (all digit s) refl
    where
      go : (b : Bool) → all digit s ≡ b → number s ≡ none
      go true q = tests true true p q
      go false q = tests true false p q

  -- some byte is no digit
  pub no_worth : None ≡ worth_of s → number s ≡ none
  no_worth e = go (leading_zero s) refl (all digit s) refl
    where
      go : (a : Bool) → leading_zero s ≡ a → (b : Bool) → all digit s ≡ b → number s ≡ none
      go true p b q = zero_first p
      go false p true q = absurd (let z : None ≡ Some (worth 0 s) = e ∙ rw q in cc)
      go false p false q = tests false false p q

  module _ (plain : leading_zero s ≡ false) (v : ℕ) (e : Some v ≡ worth_of s) where
    pub large : last_word < v → number s ≡ none
    large l = go (all digit s) refl
      where
        go : (b : Bool) → all digit s ≡ b → number s ≡ none
        go true q = let z : Some v ≡ Some (worth 0 s) = e ∙ rw q in let w : v ≡ worth 0 s = cc in tests false true plain q ∙ rw (leb_no (worth 0 s) last_word (omega arith))
        go false q = tests false false plain q

    pub is_number : v ≤ last_word → number s ≡ some v
    is_number l = go (all digit s) refl
      where
        go : (b : Bool) → all digit s ≡ b → number s ≡ some v
        go true q = let z : Some v ≡ Some (worth 0 s) = e ∙ rw q in let w : v ≡ worth 0 s = cc in tests false true plain q ∙ rw (leb_yes (worth 0 s) last_word (omega arith), ← w)
        go false q = absurd (let z : Some v ≡ None = e ∙ rw q in cc)

-- what an answer says of the number
pub word_none : (o : Option ℕ) → word_of o ≡ None → o ≡ none
word_none none e = refl
word_none (some n) e = absurd cc

pub word_some : (o : Option ℕ) (n : ℕ) → word_of o ≡ Some n → o ≡ some n
word_some none n e = absurd cc
word_some (some m) n e = let z : m ≡ n = cc in ap some z
