-- The products of two lists of rows: each row of the one with each of the other, as one.
use Rattle.std.specs.Prelude.{◌≡◌, List, map, [], ◌∷◌, ◌++◌, ℕ, ◌+◌, ◌≤◌, length, take}
use Rattle.signature.specs.Lists.{somes}
use Rattle.cell.specs.Cell.{Kinds}
use Rattle.cell.specs.Coded.{Typed, row_code}
use Rattle.row.specs.Row.{Row, combine, each}
use Rattle.cell.specs.RowList.{Every, list_code, entries, costs}

-- one row with each
abbrev pub AllTyped : Kinds → List ℕ → ℕ → List Row → Type 0
AllTyped K ar k rs = Every (λ r. Typed K ar r k) rs

abbrev pub with_each : Row → List Row → List Row
with_each r ss = somes (map (combine r) ss)

abbrev pub room_for : Kinds → ℕ → Row → List Row → ℕ
room_for K k r [] = 0
room_for K k r (s ∷ ss) = (1 + (length (row_code K r k) + length (row_code K s k))) + room_for K k r ss

pub record GivenEach (ar x y o : List ℕ) : Type 0 where
  pub K : Kinds
  pub kind : ℕ
  pub r : Row
  pub ss : List Row
  pub rest_x : List ℕ
  pub rest_y : List ℕ
  pub code_x : x ≡ row_code K r kind ++ rest_x
  pub code_y : y ≡ list_code K kind ss ++ rest_y
  pub typed_r : Typed K ar r kind
  pub typed_s : AllTyped K ar kind ss
  pub room : room_for K kind r ss ≤ length o

abbrev pub each_entry : {ar x y o : List ℕ} → GivenEach ar x y o → List ℕ
each_entry g = entries g.K g.kind (with_each g.r g.ss)

abbrev pub room_all : Kinds → ℕ → List Row → List Row → ℕ
room_all K k rs ss = costs (λ r. room_for K k r ss) rs

pub record GivenProduct (ar x y o : List ℕ) : Type 0 where
  pub K : Kinds
  pub kind : ℕ
  pub rs : List Row
  pub ss : List Row
  pub rest_x : List ℕ
  pub rest_y : List ℕ
  pub code_x : x ≡ list_code K kind rs ++ rest_x
  pub code_y : y ≡ list_code K kind ss ++ rest_y
  pub typed_r : AllTyped K ar kind rs
  pub typed_s : AllTyped K ar kind ss
  pub room : room_all K kind rs ss + 1 ≤ length o

-- the list of the products, and how many words it has without its end
pub record Product (w : List ℕ) (n : ℕ) (o : List ℕ) : Type 0 where
  pub size : n ≡ length w
  pub list : take (n + 1) o ≡ w ++ (0 ∷ [])

abbrev pub products : {ar x y o : List ℕ} → GivenProduct ar x y o → List Row
products g = somes (each combine g.rs g.ss)
