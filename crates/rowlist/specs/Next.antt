-- The rows of a constructor that are begun, with one argument more.
use Rattle.std.specs.Prelude.{List, [], ◌∷◌, ◌++◌, Bool, true, false, cond, ◌≡◌, ℕ, ◌*◌, ◌+◌, ◌≤◌, ltb, eqb, length}
use Rattle.pattern.specs.Limits.{part_weight_limit}
use Rattle.rowlist.specs.Grow.{appends, grown, ListFirst, words_list}
use Rattle.rowlist.specs.Product.{Product}
use Rattle.cell.specs.Cell.{cell_width, cell_code}
use Rattle.cell.specs.RowList.{Every, from}

-- one argument: more rows than a part may weigh are none, since an argument that is still to come has none
abbrev pub next_rows : Bool → List ℕ → List (List ℕ) → List (List ℕ) → List (List ℕ)
next_rows true w vs ws = cond (ltb part_weight_limit (length vs * length ws)) [] (grown vs ws)
next_rows false w [] ws = []
next_rows false w (v ∷ vs) ws = grown (v ∷ vs) (w ∷ []) ++ appends v ws

abbrev pub Short : ℕ → List (List ℕ) → Type 0
Short n vs = Every (λ v. length v ≤ n) vs

-- two lists, the second from a word on, and room for the next rows
pub record GivenNext (lists : List ℕ) (at k : ℕ) : Type 0 where
  pub left : ListFirst lists
  pub within : at ≤ length lists
  pub right : ListFirst (from lists at)
  pub a : ℕ
  pub j : ℕ
  pub left_short : Short a left.rows
  pub right_short : Short j right.rows
  pub left_few : length left.rows ≤ part_weight_limit
  pub right_few : length right.rows ≤ part_weight_limit
  pub room : part_weight_limit * (1 + (a + j)) + 1 ≤ k

-- on the minus side, with a first row, and few in all
pub record GivenNextMinus (lists : List ℕ) (at k : ℕ) : Type 0 where
  pub next : GivenNext lists at k
  pub v : List ℕ
  pub vs : List (List ℕ)
  pub first : next.left.rows ≡ v ∷ vs
  pub cell : cell_width ≤ next.j
  pub few : length next.left.rows + length next.right.rows ≤ part_weight_limit

-- what is asked on the side b
abbrev pub GivenNextAt : Bool → List ℕ → ℕ → ℕ → Type 0
GivenNextAt true lists at k = GivenNext lists at k
GivenNextAt false lists at k = GivenNextMinus lists at k

abbrev pub next_made : (b : Bool) → ℕ → ℕ → (lists : List ℕ) (at k : ℕ) → GivenNextAt b lists at k → List ℕ
next_made true tag full lists at k g = words_list (next_rows true [] g.left.rows g.right.rows)
next_made false tag full lists at k g = words_list (next_rows false (cell_code tag 0 full) g.next.left.rows g.next.right.rows)

-- "not C": the row of the other heads, if there are any
abbrev pub others_code : ℕ → ℕ → List ℕ
others_code tag rest = cond (eqb rest 0) [] (cell_width ∷ cell_code tag 0 rest)

-- a list whose first row, of a cell or more, goes
pub record GivenOthers (used : ℕ) (o : List ℕ) (m : ℕ) : Type 0 where
  pub v : List ℕ
  pub vs : List (List ℕ)
  pub list : Product (words_list (v ∷ vs)) used o
  pub cell : cell_width ≤ length v
  pub room : used + 1 ≤ m
