-- A list of rows in words: before each row the number of its words, behind the last a 0.
use Rattle.std.specs.Prelude.{◌≡◌, List, [], ◌∷◌, ◌++◌, ℕ, ◌+◌, ◌≤◌, ◌-◌, length, take, drop}
use Rattle.signature.specs.Lists.{somes}
use Rattle.cell.specs.Cell.{Kinds}
use Rattle.cell.specs.Coded.{row_code, Typed}
use Rattle.row.specs.Row.{Row, combine}

-- of anything that has words
abbrev pub each_with : {A : Type 0} → (A → List ℕ) → List A → List ℕ
each_with w [] = []
each_with w (a ∷ l) = length (w a) ∷ (w a ++ each_with w l)

abbrev pub entries : Kinds → ℕ → List Row → List ℕ
entries K k rs = each_with (λ r. row_code K r k) rs

-- the end is a row of no words
abbrev pub list_code : Kinds → ℕ → List Row → List ℕ
list_code K k rs = entries K k rs ++ (0 ∷ [])

-- so many words are written in front, these
abbrev pub WrittenFirst : List ℕ → ℕ → List ℕ → Type 0
WrittenFirst w n o = (n ≡ length w) × (take n o ≡ w)

-- one row with one, and the number of words in front
pub record GivenOne (ar x y o : List ℕ) : Type 0 where
  pub K : Kinds
  pub kind : ℕ
  pub r : Row
  pub s : Row
  pub rest_x : List ℕ
  pub rest_y : List ℕ
  pub code_x : x ≡ row_code K r kind ++ rest_x
  pub code_y : y ≡ row_code K s kind ++ rest_y
  pub typed_r : Typed K ar r kind
  pub typed_s : Typed K ar s kind
  pub room : 1 + (length (row_code K r kind) + length (row_code K s kind)) ≤ length o

abbrev pub one_entry : {ar x y o : List ℕ} → GivenOne ar x y o → List ℕ
one_entry g = entries g.K g.kind (somes (combine g.r g.s ∷ []))

abbrev pub costs : {A : Type 0} → (A → ℕ) → List A → ℕ
costs c [] = 0
costs c (s ∷ ss) = c s + costs c ss

abbrev pub Every : {A : Type 0} → (A → Type 0) → List A → Type 0
Every P [] = Unit {0}
Every P (s ∷ ss) = P s × Every P ss

-- a part of a slice to its end
abbrev pub from : List ℕ → ℕ → List ℕ
from l a = take (length l - a) (drop a l)
