-- A row as cells in preorder, each of three words: what is named and the variables in one, the heads still allowed in two.
use Rattle.std.specs.Prelude.{List, ◌∷◌, [], ◌++◌, ℕ, ◌+◌, ◌*◌}
use Rattle.sets.specs.Heads.{low_word, high_word}

-- the words of a cell
abbrev pub cell_width : ℕ
cell_width = 3

-- a tag below this names a constructor, any other is this and a kind
abbrev pub kind_tag : ℕ
kind_tag = 256

-- the tag of a column that no cell stands for
abbrev pub free_tag : ℕ
free_tag = 512

-- every tag is below this: the first word has the tag, and the variables from here on
abbrev pub tag_limit : ℕ
tag_limit = 65536

abbrev pub first_word : ℕ → ℕ → ℕ
first_word t v = t + tag_limit * v

-- the words of a cell: tag, variables, heads
abbrev pub cell_code : ℕ → ℕ → ℕ → List ℕ
cell_code t v m = first_word t v ∷ (low_word m ∷ (high_word m ∷ []))

-- a place: constructor, variables, heads, arguments; or tag, variables, heads
mutual
  pub data RowCells : Type 0 where
    named_cells : ℕ → ℕ → ℕ → RowsCells → RowCells
    free_cell : ℕ → ℕ → ℕ → RowCells

  pub data RowsCells : Type 0 where
    no_cells : RowsCells
    more_cells : RowCells → RowsCells → RowsCells

abbrev mutual
  pub words : RowCells → List ℕ
  words (named_cells c v m rs) = cell_code c v m ++ all_words rs
  words (free_cell t v m) = cell_code t v m

  pub all_words : RowsCells → List ℕ
  all_words no_cells = []
  all_words (more_cells r rs) = words r ++ all_words rs

-- the kinds: each one's first constructor, each constructor's argument kinds
pub record Kinds : Type 0 where
  pub first : ℕ → ℕ
  pub args : ℕ → List ℕ
