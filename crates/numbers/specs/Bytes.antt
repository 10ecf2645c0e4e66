-- Bytes up to a separator; what digits are worth.
use Rattle.std.specs.Prelude.{List, [], ◌∷◌, cond, ℕ, suc, eqb, Option as Answer, Some, None}
use Rattle.std.proofs.Math.Option.{Option, none, some}
use Rattle.signature.specs.Lists.{all}
use Rattle.text.specs.Format.{digit, worth}

-- how many bytes stand before the first c
abbrev pub bytes_before : ℕ → List ℕ → ℕ
bytes_before c [] = 0
bytes_before c (b ∷ bs) = cond (eqb b c) 0 (suc (bytes_before c bs))

-- what digits are worth, or that one is no digit
abbrev pub worth_of : List ℕ → Answer ℕ
worth_of bs = cond (all digit bs) (Some (worth 0 bs)) None

-- a number that was read, or that the format is broken
abbrev pub word_of : Option ℕ → Answer ℕ
word_of none = None
word_of (some n) = Some n
