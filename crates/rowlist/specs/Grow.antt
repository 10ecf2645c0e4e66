-- Rows of words, each behind each: what the rows of a constructor are made of.
use Rattle.std.specs.Prelude.{◌≡◌, List, map, [], ◌∷◌, ◌++◌, ℕ, ◌+◌, ◌≤◌, length}
use Rattle.cell.specs.RowList.{each_with, costs, Every}

abbrev pub words_list : List (List ℕ) → List ℕ
words_list ws = each_with (λ w. w) ws

-- no row is without words: 0 ends a list
abbrev pub Filled : List (List ℕ) → Type 0
Filled ws = Every (λ w. 1 ≤ length w) ws

-- the row v, of n words, stands first
pub record RowFirst (x : List ℕ) (n : ℕ) : Type 0 where
  pub row : List ℕ
  pub rest : List ℕ
  pub code_is : x ≡ row ++ rest
  pub size : n ≡ length row

-- the list ws stands first
pub record ListFirst (y : List ℕ) : Type 0 where
  pub rows : List (List ℕ)
  pub rest : List ℕ
  pub code_is : y ≡ (words_list rows ++ (0 ∷ [])) ++ rest
  pub filled : Filled rows

-- one row behind one
pub record GivenAppend (x : List ℕ) (n : ℕ) (y : List ℕ) (m k : ℕ) : Type 0 where
  pub left : RowFirst x n
  pub right : RowFirst y m
  pub room : 1 + (n + m) ≤ k

-- each row of a list behind one
abbrev pub appends : List ℕ → List (List ℕ) → List (List ℕ)
appends v ws = map (λ w. v ++ w) ws

abbrev pub appends_room : List ℕ → List (List ℕ) → ℕ
appends_room v ws = costs (λ w. 1 + (length v + length w)) ws

pub record GivenAppends (x : List ℕ) (n : ℕ) (y : List ℕ) (k : ℕ) : Type 0 where
  pub left : RowFirst x n
  pub right : ListFirst y
  pub some_words : 1 ≤ n
  pub room : appends_room left.row right.rows ≤ k

-- each row of a list behind each of a list
abbrev pub grown : List (List ℕ) → List (List ℕ) → List (List ℕ)
grown [] ws = []
grown (v ∷ vs) ws = appends v ws ++ grown vs ws

abbrev pub grown_room : List (List ℕ) → List (List ℕ) → ℕ
grown_room vs ws = costs (λ v. appends_room v ws) vs

pub record GivenGrow (x y : List ℕ) (k : ℕ) : Type 0 where
  pub left : ListFirst x
  pub right : ListFirst y
  pub room : grown_room left.rows right.rows + 1 ≤ k
