-- A row of cells on a path: the columns that are left of it.
use Rattle.std.specs.Prelude.{◌≡◌, List, [], ◌∷◌, ◌++◌, Bool, true, not, ◌||◌, ℕ, ◌+◌, ◌≤◌, ◌<◌, eqb, ltb, length, drop}
use Rattle.signature.specs.Lists.{memb, first}
use Rattle.signature.specs.Signature.{Signature, heads, arguments}
use Rattle.row.specs.Row.{Row, Rows, named, free, rnil, rcons, open_rows}
use Rattle.cell.specs.Cell.{kind_tag, all_words}
use Rattle.cell.specs.Coded.{HeadOfKind, kinds_of, all_cells}
use Rattle.cell.specs.Cursor.{cell_at}
use Rattle.sets.specs.Heads.{number_of}
use Rattle.sets.specs.Set.{Within, members}
use Rattle.tree.specs.Tree.{rappend}
use Rattle.path.specs.Variables.{Once}

-- the cell whose words begin at a word: its tag, its variables, and the set of the heads that it allows
abbrev pub tag_of : List ℕ → ℕ → ℕ
tag_of a at = (cell_at a at).tag

abbrev pub vars_of : List ℕ → ℕ → ℕ
vars_of a at = (cell_at a at).vars

abbrev pub allowed_of : List ℕ → ℕ → ℕ
allowed_of a at = number_of (cell_at a at).allowed

-- each of these is one of those
abbrev pub Among : List ℕ → List ℕ → Type 0
Among cs ds = (c : ℕ) → memb c cs ≡ true → memb c ds ≡ true

-- a cell's test: it names a constructor, or excludes one of its kind, for its set has not as many members as the kind has heads
abbrev pub refined_cell : Signature → ℕ → ℕ → ℕ → Bool
refined_cell sig k tag allowed = ltb tag kind_tag || not (eqb (length (members allowed)) (length (heads sig k)))

module _ (sig : Signature) (t : List ℕ) where
  -- a row of kind k whose constructors are of the kinds of their places
  abbrev mutual
    pub RowStands : Row → ℕ → Type 0
    RowStands (named vs c rs) k = HeadOfKind (kinds_of sig) t k c × (memb c (heads sig k) ≡ true) × Once vs × RowsStand rs (arguments sig c)
    RowStands (free vs cs) k = (k < 256) × Within (first (heads sig k)) cs × Among cs (heads sig k) × Once vs

    pub RowsStand : Rows → List ℕ → Type 0
    RowsStand rnil [] = Unit {0}
    RowsStand rnil (k ∷ ks) = ⊥
    RowsStand (rcons r rs) [] = ⊥
    RowsStand (rcons r rs) (k ∷ ks) = RowStands r k × RowsStand rs ks

  -- columns of kinds ks: wildcards that no cell stands for, then `own` columns whose cells are the words of a from `at` to `stop`
  pub record At (a : List ℕ) (stop at own : ℕ) (ks : List ℕ) (rs : Rows) : Type 0 where
    pub virt : List ℕ
    pub mine : List ℕ
    pub qs : Rows
    pub rest : List ℕ
    pub kinds_are : ks ≡ virt ++ mine
    pub columns_are : rs ≡ rappend (open_rows sig virt) qs
    pub good : RowsStand qs mine
    pub code_is : drop at a ≡ all_words (all_cells (kinds_of sig) qs mine) ++ rest
    pub within : at ≤ length a
    pub own_is : own ≡ length mine
    pub ends : at + length (all_words (all_cells (kinds_of sig) qs mine)) ≡ stop
