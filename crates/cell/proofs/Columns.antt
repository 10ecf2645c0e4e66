-- The columns of a row, as a cursor takes them.
use borrow.Author.Tests.{lt-ltb, le-ltb}
use mathlib.Core.Path.{◌≡◌, ap, sym, ◌∙◌, refl}
use mathlib.Core.List.{List, ◌++◌, ◌∷◌, append_assoc}
use mathlib.Core.Bool.{cond}
use Prim.Native.Nat.{ℕ, ◌≤◌, ◌<◌, ◌+◌, zero, suc, ◌*◌, ◌-◌, ◌/◌, ◌%◌}
use native.Mathlib.Nat.{add-zero, zero-add, suc-add}
use native.Mathlib.Omega.{arith}
use lib.Dec.{ltb}
use lib.ListN.{drop, length, get_or, length-drop, replicate}
use lib.Seq.{get_or-drop, drop-drop}
use Rattle.cell.specs.declared.cell.Cursor.{Cursor}
use Rattle.cell.specs.Cell.{named_cells, free_cell, RowsCells, all_words, no_cells, more_cells, words, cell_code, first_word, tag_limit}
use Rattle.cell.specs.Cursor.{wild_cell, cell_at, cell_of, look_at, Room, next_of}
use Rattle.cell.proofs.CellFacts.{Col, Lead, flat, wild, real, reals, column_cell, enter}

-- the columns that are left of the row whose words begin a
pub record Stands (a : List ℕ) (at wildcards : ℕ) (xs : List Col) : Type 0 where
  pub rest : List ℕ
  pub lead : Lead wildcards xs
  pub code : drop at a ≡ flat xs ++ rest
  pub within : at ≤ length a

-- a column's tag tells whether it names a constructor
abbrev pub Tagged : Col → Type 0
Tagged wild = Unit {0}
Tagged (real (named_cells c v m rs)) = c < 256
Tagged (real (free_cell t v m)) = (256 ≤ t) × (t < 512)

-- how many words its cell has
abbrev pub wide : Col → ℕ
wide wild = 0
wide (real r) = 3

-- three words at a place
pub record Three (a : List ℕ) (at x y z : ℕ) (w : List ℕ) : Type 0 where
  pub one : get_or a at 0 ≡ x
  pub two : get_or a (at + 1) 0 ≡ y
  pub three : get_or a (at + 2) 0 ≡ z
  pub after : drop (at + 3) a ≡ w
  pub room : at + 3 ≤ length a

pub three_at : (a : List ℕ) (at x y z : ℕ) (w : List ℕ) → drop at a ≡ x ∷ (y ∷ (z ∷ w)) → Three a at x y z w
three_at a at x y z w e = record {
  one = ap (λ (n : ℕ). get_or a n 0) (sym (add-zero at)) ∙ sym (get_or-drop at a 0 0) ∙ ap (λ (l : List ℕ). get_or l 0 0) e;
  two = sym (get_or-drop at a 1 0) ∙ ap (λ (l : List ℕ). get_or l 1 0) e;
  three = sym (get_or-drop at a 2 0) ∙ ap (λ (l : List ℕ). get_or l 2 0) e;
  after = sym (drop-drop 3 at a) ∙ ap (drop 3) e;
  room = omega (arith, length-drop at a, ap length e);
}

-- the words of a cell at a place
first_tag : (t v : ℕ) → t < tag_limit → first_word t v % tag_limit ≡ t
first_tag t v h = omega (arith, h)

first_vars : (t v : ℕ) → t < tag_limit → first_word t v / tag_limit ≡ v
first_vars t v h = omega (arith, h)

pub record CellAt (a : List ℕ) (at t v m : ℕ) (w : List ℕ) : Type 0 where
  pub cell : cell_at a at ≡ cell_of t v m
  pub after : drop (at + 3) a ≡ w
  pub room : at + 3 ≤ length a

pub cell_there : (a : List ℕ) (at t v m : ℕ) (w : List ℕ) → t < tag_limit → drop at a ≡ cell_code t v m ++ w → CellAt a at t v m w
cell_there a at t v m w l e =
    let h = three_at a at _ _ _ w e in
    record { cell = rw (h.one, h.two, h.three, first_tag t v l, first_vars t v l); after = h.after; room = h.room }

pub flat_reals : (rs : RowsCells) (xs : List Col) → flat (reals rs ++ xs) ≡ all_words rs ++ flat xs
flat_reals no_cells xs = refl
flat_reals (more_cells r rs) xs = ap (λ (l : List ℕ). words r ++ l) (flat_reals rs xs) ∙ sym (append_assoc (words r) (all_words rs) (flat xs))

pub flat_wilds : (n : ℕ) (xs : List Col) → flat (replicate n wild ++ xs) ≡ flat xs
flat_wilds zero xs = refl
flat_wilds (suc n) xs = flat_wilds n xs

pub lead_wilds : (n v : ℕ) (xs : List Col) → Lead v xs → Lead (n + v) (replicate n wild ++ xs)
lead_wilds zero v xs h = rw zero-add h
lead_wilds (suc n) v xs h = rw suc-add (lead_wilds n v xs h)

pub lead_reals : (rs : RowsCells) (xs : List Col) → Lead 0 xs → Lead 0 (reals rs ++ xs)
lead_reals no_cells xs h = h
lead_reals (more_cells r rs) xs h = lead_reals rs xs h

-- what a cursor sees is the first column's cell
look_is : (a : List ℕ) (at wildcards : ℕ) (x : Col) (xs : List Col) (rest : List ℕ) → Lead wildcards (x ∷ xs) → drop at a ≡ flat (x ∷ xs) ++ rest → Tagged x
    → cond (ltb 0 wildcards) wild_cell (cell_at a at) ≡ column_cell x
look_is a at zero wild xs rest l e g = absurd l
look_is a at (suc v) wild xs rest l e g = rw (lt-ltb 0 (suc v) (omega arith))
look_is a at zero (real (named_cells c v m rs)) xs rest l e g = (cell_there a at c v m _ (omega (arith, g)) e).cell
look_is a at zero (real (free_cell c v m)) xs rest l e g = (cell_there a at c v m _ (omega (arith, g.1)) e).cell
look_is a at (suc v) (real r) xs rest l e g = absurd l

pub look_col : (a : List ℕ) (c : Cursor) (x : Col) (xs : List Col) → Stands a c.at c.wildcards (x ∷ xs) → Tagged x → look_at a c ≡ column_cell x
look_col a c x xs s g = look_is a c.at c.wildcards x xs s.rest s.lead s.code g

-- it has a cell to see
room_is : (a : List ℕ) (at wildcards : ℕ) (x : Col) (xs : List Col) (rest : List ℕ) → Lead wildcards (x ∷ xs) → drop at a ≡ flat (x ∷ xs) ++ rest → at ≤ length a
    → (at + wide x ≤ length a) × (at + 3 ≤ length a + 3 * wildcards)
room_is a at zero wild xs rest l e w = absurd l
room_is a at (suc v) wild xs rest l e w = omega arith
room_is a at zero (real (named_cells c v m rs)) xs rest l e w = let t = three_at a at _ _ _ _ e in omega (arith, t.room)
room_is a at zero (real (free_cell c v m)) xs rest l e w = let t = three_at a at _ _ _ _ e in omega (arith, t.room)
room_is a at (suc v) (real r) xs rest l e w = absurd l

pub room_col : (a : List ℕ) (c : Cursor) (x : Col) (xs : List Col) → Stands a c.at c.wildcards (x ∷ xs) → (c.at + wide x ≤ length a) × Room a c
room_col a c x xs s = room_is a c.at c.wildcards x xs s.rest s.lead s.code s.within

-- a step of the cursor is the step on columns
step_is : (a : List ℕ) (at wildcards n : ℕ) (x : Col) (xs : List Col) (rest : List ℕ) → Lead wildcards (x ∷ xs) → drop at a ≡ flat (x ∷ xs) ++ rest → at ≤ length a → Tagged x
    → let c : Cursor = next_of (record { at = at; wildcards = wildcards }) (column_cell x).tag n in (c.at ≡ at + wide x) × Stands a c.at c.wildcards (enter x n ++ xs)
step_is a at zero n wild xs rest l e w g = absurd l
step_is a at (suc v) n wild xs rest l e w g = rw (lt-ltb 0 (suc v) (omega arith)) (
  sym (add-zero at),
  record {
    rest = rest;
    lead = let q : suc v - 1 + n ≡ n + v = omega arith in rw q (lead_wilds n v xs l);
    code = e ∙ ap (λ (l : List ℕ). l ++ rest) (sym (flat_wilds n xs));
    within = w;
  },
)
step_is a at zero n (real (named_cells c v m rs)) xs rest l e w g =
    let t = three_at a at _ _ _ _ e in
    rw (lt-ltb c 256 g) (
      refl,
      record {
        rest = rest;
        lead = lead_reals rs xs l;
        code = t.after ∙ ap (λ (l : List ℕ). l ++ rest) (sym (flat_reals rs xs));
        within = t.room;
      },
    )
step_is a at zero n (real (free_cell c v m)) xs rest l e w g =
    let t = three_at a at _ _ _ _ e in
    rw (le-ltb c 256 g.0) (
      refl,
      record {
        rest = rest;
        lead = rw add-zero at (lead_wilds n 0 xs l);
        code = t.after ∙ ap (λ (l : List ℕ). l ++ rest) (sym (flat_wilds n xs));
        within = t.room;
      },
    )
step_is a at (suc v) n (real r) xs rest l e w g = absurd l

pub step_col : (a : List ℕ) (c : Cursor) (n : ℕ) (x : Col) (xs : List Col) → Stands a c.at c.wildcards (x ∷ xs) → Tagged x
    → ((next_of c (column_cell x).tag n).at ≡ c.at + wide x) × Stands a (next_of c (column_cell x).tag n).at (next_of c (column_cell x).tag n).wildcards (enter x n ++ xs)
step_col a c n x xs s g = step_is a c.at c.wildcards n x xs s.rest s.lead s.code s.within g
