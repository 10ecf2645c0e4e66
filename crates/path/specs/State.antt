-- The writer's state on a path: the rows alive, their cursors, the visits of the cells before them; and the lines that it stands for.
use Rattle.std.specs.Prelude.{◌≡◌, List, [], ◌∷◌, Bool, true, false, ◌&&◌, not, ℕ, zero, suc, ◌+◌, ◌-◌, ◌*◌, ◌≤◌, ◌<◌, eqb, length, get_or, set}
use Rattle.std.proofs.Math.Option.{Option, none, some}
use Rattle.sets.specs.Set.{bit}
use Rattle.signature.specs.Signature.{Signature}
use Rattle.pattern.specs.Limits.{pattern_limit}
use Rattle.cell.specs.Cell.{cell_width}
use Rattle.cell.specs.Cursor.{opens_of}
use Rattle.rowset.specs.Limits.{row_limit}
use Rattle.tree.specs.Tree.{Line, inserts}
use Rattle.path.specs.Standing.{At, tag_of, vars_of, allowed_of}
use Rattle.path.specs.Variables.{variables}

-- the options of n numbers from i on
abbrev pub options : {A : Type 0} → (ℕ → Option A) → ℕ → ℕ → List (Option A)
options f i zero = []
options f i (suc n) = f i ∷ options f (suc i) n

-- the table of the rows: where a row's words begin and end, its rule, its plan, and how many columns it has of its own at each cell; behind the rows the default's plan

-- the words of a row before those numbers
abbrev pub row_head : ℕ
row_head = 4

-- such a number at each cell and one behind the last, and 3 words that are free: 72 is a multiple of 8
abbrev pub row_stride : ℕ
row_stride = row_head + pattern_limit + 1 + 3

abbrev pub start_of : List ℕ → ℕ → ℕ
start_of rows r = get_or rows (row_stride * r) 0

abbrev pub stop_of : List ℕ → ℕ → ℕ
stop_of rows r = get_or rows (row_stride * r + 1) 0

abbrev pub rule_of : List ℕ → ℕ → ℕ
rule_of rows r = get_or rows (row_stride * r + 2) 0

abbrev pub plan_of : List ℕ → ℕ → ℕ
plan_of rows r = get_or rows (row_stride * r + 3) 0

abbrev pub own_of : List ℕ → ℕ → ℕ → ℕ
own_of rows r q = get_or rows (row_stride * r + row_head + q) 0

-- the default's plan, behind the last row that there may be
abbrev pub default_in : List ℕ → ℕ
default_in rows = get_or rows (row_stride * row_limit) 0

-- the word where cell q of row r begins
abbrev pub cell_of : List ℕ → ℕ → ℕ → ℕ
cell_of rows r q = start_of rows r + cell_width * q

pub record Indexed (t a rows : List ℕ) (n : ℕ) : Type 0 where
  pub long : row_stride * n ≤ length rows
  pub whole : row_stride * row_limit < length rows
  pub counts : (r q : ℕ) → r < n → cell_of rows r q + cell_width ≤ stop_of rows r → own_of rows r (q + 1) ≡ own_of rows r q - 1 + opens_of t (tag_of a (cell_of rows r q))
  pub within : (r : ℕ) → r < n → (stop_of rows r ≤ length a) × (stop_of rows r ≤ start_of rows r + cell_width * pattern_limit)

-- visits: a word for each cell of each row

abbrev pub visit_of : List ℕ → ℕ → ℕ → ℕ
visit_of vis r q = get_or vis (pattern_limit * r + q) 0

-- what the first q cells of row r bind, each at its visit
abbrev pub bound : List ℕ → List ℕ → List ℕ → ℕ → ℕ → List (ℕ × ℕ)
bound a rows vis r zero = []
bound a rows vis r (suc q) = inserts (visit_of vis r q) (variables (vars_of a (cell_of rows r q))) (bound a rows vis r q)

-- sets of rows, by the test of a row

abbrev pub one_if : Bool → ℕ
one_if true = 1
one_if false = 0

-- the rows whose own cell stands in the first of m columns
abbrev pub real_of : List ℕ → (ℕ → Bool) → List ℕ → ℕ → ℕ → Bool
real_of rows alive cur m r = alive r && eqb (own_of rows r (get_or cur r 0)) m

-- those that allow head number j of the kind, by the cell q of a row
abbrev pub kept_by : List ℕ → List ℕ → (ℕ → Bool) → (ℕ → Bool) → ℕ → ℕ → ℕ → Bool
kept_by a rows alive real q j r = alive r && not (real r && eqb (bit (allowed_of a (cell_of rows r q)) j) 0)

-- by the cursors, which are raised by then
abbrev pub kept_of : List ℕ → List ℕ → (ℕ → Bool) → (ℕ → Bool) → List ℕ → ℕ → ℕ → Bool
kept_of a rows alive real cur j r = kept_by a rows alive real (get_or cur r 0 - 1) j r

-- cursors and visits after visit v of the real rows
pub record Raised (n : ℕ) (real : ℕ → Bool) (v : ℕ) (cur vis cur' vis' : List ℕ) : Type 0 where
  pub cursor : (r : ℕ) → r < n → get_or cur' r 0 ≡ get_or cur r 0 + one_if (real r)
  pub beyond : (r : ℕ) → n ≤ r → get_or cur' r 0 ≡ get_or cur r 0
  pub visit : (r : ℕ) → r < n → real r ≡ true → visit_of vis' r (get_or cur r 0) ≡ v
  pub others : (r q : ℕ) → r < n → q < get_or cur r 0 → visit_of vis' r q ≡ visit_of vis r q

-- the cursors back
pub record Lowered (n : ℕ) (real : ℕ → Bool) (cur cur' : List ℕ) : Type 0 where
  pub cursor : (r : ℕ) → r < n → get_or cur' r 0 ≡ get_or cur r 0 - one_if (real r)
  pub beyond : (r : ℕ) → n ≤ r → get_or cur' r 0 ≡ get_or cur r 0

-- visits of cells before the cursors stay
abbrev pub Kept : ℕ → List ℕ → List ℕ → List ℕ → Type 0
Kept n cur vis vis' = (r q : ℕ) → r < n → q < get_or cur r 0 → visit_of vis' r q ≡ visit_of vis r q

module _ (sig : Signature) (t a rows : List ℕ) (n : ℕ) where
  -- a line of row r, whose cursor is at its cell q
  pub record LineAt (vis : List ℕ) (r q : ℕ) (ks : List ℕ) (l : Line) : Type 0 where
    pub here : At sig t a (stop_of rows r) (cell_of rows r q) (own_of rows r q) ks l.cells
    pub rule_is : l.rule ≡ rule_of rows r
    pub plan_is : l.plan ≡ plan_of rows r
    pub binds_are : l.binds ≡ bound a rows vis r q

  abbrev pub RowIs : Bool → Option Line → List ℕ → ℕ → ℕ → List ℕ → Type 0
  RowIs true (some l) vis r q ks = LineAt vis r q ks l
  RowIs true none vis r q ks = ⊥
  RowIs false (some l) vis r q ks = ⊥
  RowIs false none vis r q ks = Unit {0}

  -- the lines f are those that stand at the cursors
  abbrev pub State : (ℕ → Bool) → List ℕ → List ℕ → List ℕ → (ℕ → Option Line) → Type 0
  State alive cur vis ks f = (r : ℕ) → r < n → RowIs (alive r) (f r) vis r (get_or cur r 0) ks

-- one row past its cell
abbrev pub Lifted : ℕ → ℕ → List ℕ → List ℕ → List ℕ → List ℕ → Type 0
Lifted v r cur vis cur' vis' = (cur' ≡ set cur r (get_or cur r 0 + 1)) × (vis' ≡ set vis (pattern_limit * r + get_or cur r 0) v)

-- and back
abbrev pub Dropped : ℕ → List ℕ → List ℕ → Type 0
Dropped r cur cur' = cur' ≡ set cur r (get_or cur r 0 - 1)
