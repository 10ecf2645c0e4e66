-- Two rows as one, by their cells and by their columns.
use mathlib.Core.Path.{◌≡◌}
use mathlib.Core.List.{List, ◌++◌, ◌∷◌, []}
use mathlib.Core.Option.{Option, none, some}
use mathlib.Core.Bool.{cond}
use Prim.Native.Nat.{ℕ, suc, ◌≤◌, ◌<◌, ◌^◌, ◌-◌, ◌+◌, zero}
use lib.Bits.{bit_and, bit_or}
use lib.Dec.{eqb}
use lib.ListN.{length, replicate}
use Rattle.cell.specs.declared.cell.Cell.{Cell}
use Rattle.signature.specs.Decoded.{decoded_length, arity_of}
use Rattle.signature.specs.Limits.{heads_limit}
use Rattle.cell.specs.Cell.{kind_tag, RowsCells, no_cells, more_cells, RowCells, named_cells, free_cell, all_words, Kinds, words, cell_code}
use Rattle.cell.specs.Cursor.{wild_cell, cell_of}

abbrev pub count : RowsCells → ℕ
count no_cells = 0
count (more_cells r rs) = suc (count rs)

-- one part and then another, where neither is dropped
abbrev pub then : Option (List ℕ) → Option (List ℕ) → Option (List ℕ)
then none n = none
then (some t) none = none
then (some t) (some u) = some (t ++ u)

-- nothing where the set is empty
abbrev pub gate : ℕ → Option (List ℕ) → Option (List ℕ)
gate m o = cond (eqb m 0) none o

-- the words of two rows as one; none where it is dropped
abbrev mutual
  pub both : RowCells → RowCells → Option (List ℕ)
  both (named_cells c v m rs) (named_cells d w n ss) = gate (bit_and m n) (then (some (cell_code c (bit_or v w) (bit_and m n))) (boths rs ss))
  both (named_cells c v m rs) (free_cell t w n) = gate (bit_and m n) (some (cell_code c (bit_or v w) (bit_and m n) ++ all_words rs))
  both (free_cell t v m) (named_cells d w n ss) = gate (bit_and m n) (some (cell_code d (bit_or v w) (bit_and m n) ++ all_words ss))
  both (free_cell t v m) (free_cell u w n) = gate (bit_and m n) (some (cell_code t (bit_or v w) (bit_and m n)))

  pub boths : RowsCells → RowsCells → Option (List ℕ)
  boths no_cells no_cells = some []
  boths no_cells (more_cells s ss) = none
  boths (more_cells r rs) no_cells = none
  boths (more_cells r rs) (more_cells s ss) = then (both r s) (boths rs ss)

-- constructor c of kind k, with its one-bit set, as the arity table has it
pub record Head (K : Kinds) (ar : List ℕ) (k c m : ℕ) : Type 0 where
  pub low : K.first k ≤ c
  pub tag : c < kind_tag
  pub known : length ar ≡ decoded_length
  pub arity : arity_of ar c ≡ length (K.args c)
  pub set : m ≡ 2 ^ (c - K.first k)
  pub fits : m < 2 ^ heads_limit

pub record Free (k t m : ℕ) : Type 0 where
  pub kind : k < 256
  pub tag : t ≡ kind_tag + k
  pub some : 0 < m
  pub fits : m < 2 ^ heads_limit

module _ (K : Kinds) (ar : List ℕ) where
  -- a row of kind k
  abbrev mutual
    pub Of : RowCells → ℕ → Type 0
    Of (named_cells c v m rs) k = Head K ar k c m × Ofs rs (K.args c)
    Of (free_cell t v m) k = Free k t m

    pub Ofs : RowsCells → List ℕ → Type 0
    Ofs no_cells [] = Unit {0}
    Ofs no_cells (k ∷ ks) = ⊥
    Ofs (more_cells r rs) [] = ⊥
    Ofs (more_cells r rs) (k ∷ ks) = Of r k × Ofs rs ks

-- a column: a wildcard that no cell stands for, or a row
pub data Col : Type 0 where
  wild : Col
  real : RowCells → Col

abbrev pub column_cell : Col → Cell
column_cell wild = wild_cell
column_cell (real (named_cells c v m rs)) = cell_of c v m
column_cell (real (free_cell t v m)) = cell_of t v m

abbrev pub reals : RowsCells → List Col
reals no_cells = []
reals (more_cells r rs) = real r ∷ reals rs

-- what a column leaves where a constructor with n arguments is taken in it
abbrev pub enter : Col → ℕ → List Col
enter wild n = replicate n wild
enter (real (named_cells c v m rs)) n = reals rs
enter (real (free_cell t v m)) n = replicate n wild

-- the words of the columns
abbrev pub flat : List Col → List ℕ
flat [] = []
flat (wild ∷ xs) = flat xs
flat (real r ∷ xs) = words r ++ flat xs

-- v wildcards, and then only rows
abbrev pub Lead : ℕ → List Col → Type 0
Lead zero [] = Unit {0}
Lead zero (wild ∷ xs) = ⊥
Lead zero (real r ∷ xs) = Lead zero xs
Lead (suc v) [] = ⊥
Lead (suc v) (wild ∷ xs) = Lead v xs
Lead (suc v) (real r ∷ xs) = ⊥
