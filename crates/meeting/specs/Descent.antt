-- Rows that stand at one place: what is given of them, and what a visit of that place leaves.
use Rattle.std.specs.Prelude.{◌≡◌, List, Bool, true, not, cond, ◌&&◌, ◌||◌, ℕ, ◌+◌, ◌*◌, ◌^◌, ◌≤◌, ◌<◌, length, get_or}
use Rattle.signature.specs.Lists.{is_some}
use Rattle.cell.specs.Cell.{Kinds, cell_width, all_words}
use Rattle.cell.specs.Coded.{row_code, all_cells}
use Rattle.cell.specs.Cursor.{cell_at}
use Rattle.cell.specs.declared.cell.Cell.{Cell}
use Rattle.row.specs.Row.{Row, Rows, combine, combines}
use Rattle.row.specs.RowFits.{place_count, places_count}
use Rattle.rowset.specs.Limits.{row_limit}
use Rattle.rowset.specs.Member.{member, set_words}
-- the rows of a word of a set stand with the sets
pub use Rattle.rowset.specs.Member.{in_word}
use Rattle.meeting.specs.Matrix.{meets}
use Rattle.meeting.specs.Part.{RowAt, RowsAt}

-- the rows of a set that pass a test of their cells, as a set
abbrev pub Chosen : (ℕ → Bool) → List ℕ → List ℕ → Type 0
Chosen f s x = (q : ℕ) → q < row_limit → member x q ≡ (member s q && f q)

-- the cell at which row q stands
abbrev pub cell_of_row : List ℕ → List ℕ → ℕ → Cell
cell_of_row a cur q = cell_at a (get_or cur q 0)

-- those of a word whose cells pass a test, as a word
abbrev pub WordChosen : (ℕ → Bool) → ℕ → ℕ → ℕ → Type 0
WordChosen f base word x = (q : ℕ) → q < row_limit → in_word base x q ≡ (in_word base word q && f q)

-- a cursor can be moved past a cell
abbrev pub Passable : (ℕ → Bool) → List ℕ → Type 0
Passable p cur = (q : ℕ) → q < row_limit → p q ≡ true → get_or cur q 0 + cell_width < 2 ^ 64

-- each row of a set stands at a cell
abbrev pub Cells : (ℕ → Bool) → List ℕ → List ℕ → Type 0
Cells p a cur = (q : ℕ) → q < row_limit → p q ≡ true → get_or cur q 0 + cell_width ≤ length a

-- the matrix has the rows of a set
abbrev pub Roomy : (ℕ → Bool) → ℕ → Type 0
Roomy p n = (q : ℕ) → q < row_limit → p q ≡ true → set_words * q + set_words ≤ n

-- bits of rows of a set with rows of a set are off, all others stay
abbrev pub Noted : (ℕ → Bool) → (ℕ → Bool) → List ℕ → List ℕ → Type 0
Noted p off m m' = (i j : ℕ) → i < row_limit → j < row_limit → meets m' i j ≡ (meets m i j && not (p i && off j))

-- the cursors of a set are moved on, all others stay
abbrev pub Moved : (ℕ → Bool) → (ℕ → ℕ) → List ℕ → List ℕ → Type 0
Moved p by cur cur' = (q : ℕ) → q < row_limit → get_or cur' q 0 ≡ cond (p q) (get_or cur q 0 + by q) (get_or cur q 0)

-- bits of two rows that f names are on where they were and g says so, all others stay
abbrev pub Kept : (ℕ → ℕ → Bool) → (ℕ → ℕ → Bool) → List ℕ → List ℕ → Type 0
Kept f g m m' = (i j : ℕ) → i < row_limit → j < row_limit → meets m' i j ≡ cond (f i j) (meets m i j && g i j) (meets m i j)

-- each row of a set stands at a part of one kind, of at most so many places
pub record Standing (t a : List ℕ) (p : ℕ → Bool) (deep : ℕ) (cur : List ℕ) : Type 0 where
  pub K : Kinds
  pub kind : ℕ
  pub part : ℕ → Row
  pub stands : (q : ℕ) → q < row_limit → p q ≡ true → RowAt K t a kind (get_or cur q 0) (part q)
  pub small : (q : ℕ) → q < row_limit → p q ≡ true → place_count (part q) ≤ deep

module _ {t a : List ℕ} {p : ℕ → Bool} {deep : ℕ} {cur : List ℕ} (g : Standing t a p deep cur) where
  -- how many words the part of row q has
  abbrev pub words_of : ℕ → ℕ
  words_of q = length (row_code g.K (g.part q) g.kind)

  -- rows i and j combine
  abbrev pub combine_of : ℕ → ℕ → Bool
  combine_of i j = is_some (combine (g.part i) (g.part j))

  -- the rows stand behind their parts, and a bit of two of them is on where it was and they combine
  pub record Visited (cur' m m' : List ℕ) : Type 0 where
    pub moved : Moved p words_of cur cur'
    pub kept : Kept (λ i j. p i && p j) combine_of m m'

  -- the rows of a class are out of the set, behind their parts, and held against all rows of the set
  pub record Taken (i : ℕ) (rest' cur' m m' : List ℕ) : Type 0 where
    pub class : ℕ → Bool
    pub has_first : class i ≡ true
    pub left : (q : ℕ) → q < row_limit → member rest' q ≡ (p q && not (class q))
    pub moved : Moved (λ q. p q && class q) words_of cur cur'
    pub kept : Kept (λ i j. p i && p j && (class i || class j)) combine_of m m'

-- each row of a set stands at the arguments of one constructor, of at most so many places
pub record StandingArgs (t a : List ℕ) (p : ℕ → Bool) (n deep : ℕ) (cur : List ℕ) : Type 0 where
  pub K : Kinds
  pub ks : List ℕ
  pub many : n ≡ length ks
  pub parts : ℕ → Rows
  pub stands : (q : ℕ) → q < row_limit → p q ≡ true → RowsAt K t a ks (get_or cur q 0) (parts q)
  pub small : (q : ℕ) → q < row_limit → p q ≡ true → places_count (parts q) ≤ deep

-- the rows stand behind them, and a bit of two of them is on where it was and the arguments combine
pub record ArgsVisited {t a : List ℕ} {p : ℕ → Bool} {n deep : ℕ} {cur : List ℕ} (g : StandingArgs t a p n deep cur) (cur' m m' : List ℕ) : Type 0 where
  pub moved : Moved p (λ q. length (all_words (all_cells g.K (g.parts q) g.ks))) cur cur'
  pub kept : Kept (λ i j. p i && p j) (λ i j. is_some (combines (g.parts i) (g.parts j))) m m'
