-- The words of a cell, and those of two cells as one.
use mathlib.Core.Path.{◌≡◌, sym, ap, ap₂, ◌∙◌}
use mathlib.Core.List.{List}
use mathlib.Core.Bool.{Bool, true, false, cond}
use Prim.Native.Nat.{ℕ, ◌^◌, ◌<◌, min}
use native.Mathlib.Omega.{arith}
use lib.Bits.{bit_and, bit_or, or_lt}
use lib.Dec.{ltb}
use lib.ListN.{get_or}
use Rattle.sets.specs.Heads.{number_of, two_words}
use Rattle.sets.specs.Set.{union, intersection}
use Rattle.sets.specs.declared.heads.Heads.{Heads}
use Rattle.sets.proofs.HeadSets.{number_words, words_number}
use Rattle.cell.specs.declared.cell.Cell.{Cell}
use Rattle.cell.specs.Cell.{cell_code, first_word, tag_limit}
use Rattle.cell.specs.declared.cell.Cursor.{Cursor}
use Rattle.cell.specs.Cursor.{cell_of, cell_at, wild_cell, look_at, join_of}

abbrev pub cell_words : Cell → List ℕ
cell_words c = cell_code c.tag c.vars (number_of c.allowed)

-- the heads of two cells as one
pub joined_heads : (t v m u w p : ℕ) → number_of (join_of (cell_of t v m) (cell_of u w p)).allowed ≡ bit_and m p
joined_heads t v m u w p = number_words _ ∙ ap₂ bit_and (number_words m) (number_words p)

pub joined_words : (t v m u w p : ℕ) → cell_words (join_of (cell_of t v m) (cell_of u w p)) ≡ cell_code (min t u) (bit_or v w) (bit_and m p)
joined_words t v m u w p = ap (cell_code (min t u) (bit_or v w)) (joined_heads t v m u w p)

-- as the code makes it
pub joined_is : (a b : Cell) (t v : ℕ) (s : Heads) → t ≡ min a.tag b.tag → v ≡ union a.vars b.vars → s.low < 2 ^ 64 → number_of s ≡ intersection (number_of a.allowed) (number_of b.allowed)
    → ◌≡◌ {A = Cell} (record { tag = t; vars = v; allowed = s }) (join_of a b)
joined_is a b t v s et ev q n =
    ap₂ (λ (x y : ℕ). record { tag = x; vars = y; allowed = s }) et ev
    ∙ ap (λ (z : Heads). record { tag = min a.tag b.tag; vars = union a.vars b.vars; allowed = z }) (sym (words_number s q) ∙ ap two_words n)

-- a cell whose first word is one
abbrev pub Fits : Cell → Type 0
Fits c = (c.tag < tag_limit) × (c.vars < 2 ^ 48)

pub join_fits : (a b : Cell) → Fits a → Fits b → Fits (join_of a b)
join_fits a b f g = (omega (arith, f.0, g.0), or_lt 48 a.vars b.vars f.1 g.1)

pub first_fits : (c : Cell) → Fits c → first_word c.tag c.vars < 2 ^ 64
first_fits c f = omega (arith, f.0, f.1)

pub look_fits : (row : List ℕ) → ((i : ℕ) → get_or row i 0 < 2 ^ 64) → (c : Cursor) → Fits (look_at row c)
look_fits row h c = go (ltb 0 c.wildcards)
  where
    go : (b : Bool) → Fits (cond b wild_cell (cell_at row c.at))
    go true = (omega arith, omega arith)
    go false = (omega arith, omega (arith, h c.at))

-- the cell that is joined of two that were looked at
pub joined_fits : (a b : List ℕ) → ((i : ℕ) → get_or a i 0 < 2 ^ 64) → ((i : ℕ) → get_or b i 0 < 2 ^ 64) → (x y : Cursor) (p q c : Cell) → p ≡ look_at a x → q ≡ look_at b y → c ≡ join_of p q → first_word c.tag c.vars < 2 ^ 64
joined_fits a b h g x y p q c ep eq ec = rw (ec, ep, eq) (first_fits (join_of (look_at a x) (look_at b y)) (join_fits (look_at a x) (look_at b y) (look_fits a h x) (look_fits b g y)))
