-- The cells of a row, their words, and the rows of a kind.
use Rattle.std.specs.Prelude.{◌≡◌, List, ◌∷◌, [], false, ℕ, ◌≤◌, ◌<◌, ◌+◌, length}
use Rattle.std.proofs.Math.Option.{Option, none, some}
use Rattle.signature.specs.Decoded.{decoded_length, arity_of}
use Rattle.signature.specs.Limits.{heads_limit}
use Rattle.signature.specs.Lists.{is_empty, first}
use Rattle.signature.specs.Signature.{Signature, heads, arguments}
use Rattle.cell.specs.Cell.{kind_tag, Kinds, RowCells, named_cells, free_cell, RowsCells, no_cells, more_cells, words}
use Rattle.sets.specs.Set.{set_of, Within}
use Rattle.row.specs.Row.{Row, named, free, Rows, rnil, rcons}

-- the kinds of a signature
abbrev pub kinds_of : Signature → Kinds
kinds_of sig = record { first = λ k. first (heads sig k); args = λ c. arguments sig c }

-- constructor c of kind k
pub record HeadOfKind (K : Kinds) (ar : List ℕ) (k c : ℕ) : Type 0 where
  pub low : K.first k ≤ c
  pub high : c < K.first k + heads_limit
  pub tag : c < kind_tag
  pub known : length ar ≡ decoded_length
  pub arity : arity_of ar c ≡ length (K.args c)

module _ (K : Kinds) where
  -- a row of kind k, as cells
  abbrev mutual
    pub cells : Row → ℕ → RowCells
    cells (named xs c rs) k = named_cells c (set_of 0 xs) (set_of (K.first k) (c ∷ [])) (all_cells rs (K.args c))
    cells (free xs cs) k = free_cell (kind_tag + k) (set_of 0 xs) (set_of (K.first k) cs)

    pub all_cells : Rows → List ℕ → RowsCells
    all_cells rnil ks = no_cells
    all_cells (rcons r rs) [] = no_cells
    all_cells (rcons r rs) (k ∷ ks) = more_cells (cells r k) (all_cells rs ks)

  -- its words
  abbrev pub row_code : Row → ℕ → List ℕ
  row_code r k = words (cells r k)

module _ (K : Kinds) (ar : List ℕ) where
  -- a row of kind k: its constructors are of the kinds of their places, and no place is without one
  abbrev mutual
    pub Typed : Row → ℕ → Type 0
    Typed (named xs c rs) k = HeadOfKind K ar k c × Typeds rs (K.args c)
    Typed (free xs cs) k = (k < 256) × (is_empty cs ≡ false) × Within (K.first k) cs

    pub Typeds : Rows → List ℕ → Type 0
    Typeds rnil [] = Unit {0}
    Typeds rnil (k ∷ ks) = ⊥
    Typeds (rcons r rs) [] = ⊥
    Typeds (rcons r rs) (k ∷ ks) = Typed r k × Typeds rs ks

-- what is left of a row that may be dropped
abbrev pub row_code_of : Kinds → ℕ → Option Row → Option (List ℕ)
row_code_of K k none = none
row_code_of K k (some r) = some (row_code K r k)
