-- The first column: what the rows say of it, and what is asked where it is looked at.
use Rattle.std.specs.Prelude.{◌≡◌, ◌⊎◌, List, Bool, true, false, ◌&&◌, ◌||◌, cond, ℕ, ◌+◌, ◌-◌, ◌*◌, ◌≤◌, ◌<◌, eqb, length, get_or, Option, Some, None}
use Rattle.signature.specs.Decoded.{Known, first_of}
use Rattle.signature.specs.Limits.{level_base, last_level}
use Rattle.signature.specs.Lists.{memb, any, count_up}
use Rattle.sets.specs.Set.{bit, heads_width}
use Rattle.signature.specs.Signature.{Signature, heads}
use Rattle.cell.specs.Cell.{cell_width, kind_tag}
use Rattle.rowset.specs.Limits.{row_limit}
use Rattle.tree.specs.Tree.{just_one}
use Rattle.rowset.specs.Member.{member}
use Rattle.path.specs.Standing.{refined_cell, tag_of, allowed_of}
use Rattle.path.specs.State.{cell_of, row_stride}

-- the tags and the heads that the cell of row r at its cursor allows
abbrev pub tag_at : List ℕ → List ℕ → List ℕ → ℕ → ℕ
tag_at a rows cur r = tag_of a (cell_of rows r (get_or cur r 0))

abbrev pub allowed_at : List ℕ → List ℕ → List ℕ → ℕ → ℕ
allowed_at a rows cur r = allowed_of a (cell_of rows r (get_or cur r 0))

-- a cell's tag is of kind k
pub record Seen (t : List ℕ) (tag : ℕ) : Type 0 where
  pub known : Known t
  pub k : ℕ
  pub there : k < known.decoded.n
  pub is : (tag ≡ kind_tag + k) ⊎ ((tag < kind_tag) × (memb tag (heads known.sig k) ≡ true))

-- what the look at a cell says: its kind k where it is refined, else none
pub record RowKind (sig : Signature) (k tag allowed : ℕ) (res : Option ℕ) : Type 0 where
  pub plain : res ≡ None → refined_cell sig k tag allowed ≡ false
  pub refines : (x : ℕ) → res ≡ Some x → (x ≡ k) × (refined_cell sig k tag allowed ≡ true)

-- what the look at the column says: its kind, or none where no real row refines it
pub record Column (sig : Signature) (a rows : List ℕ) (n : ℕ) (re cur : List ℕ) (k : ℕ) (res : Option ℕ) : Type 0 where
  pub plain : res ≡ None → (r : ℕ) → r < n → member re r ≡ true → refined_cell sig k (tag_at a rows cur r) (allowed_at a rows cur r) ≡ false
  pub kind : (x : ℕ) → res ≡ Some x → x ≡ k
  pub row : (x : ℕ) → res ≡ Some x → (r : ℕ) × (r < n) × (member re r ≡ true) × (refined_cell sig k (tag_at a rows cur r) (allowed_at a rows cur r) ≡ true)

-- what it is given: each real row has a cell there, of the column's kind
pub record Looking (t a rows : List ℕ) (n : ℕ) (re cur : List ℕ) : Type 0 where
  pub known : Known t
  pub k : ℕ
  pub there : k < known.decoded.n
  pub few : n ≤ row_limit
  pub cursors : n ≤ length cur
  pub long : row_stride * n ≤ length rows
  pub cell : (r : ℕ) → r < n → member re r ≡ true → cell_of rows r (get_or cur r 0) + cell_width ≤ length a
  pub tags : (r : ℕ) → r < n → member re r ≡ true → (tag_at a rows cur r ≡ kind_tag + k) ⊎ ((tag_at a rows cur r < kind_tag) × (memb (tag_at a rows cur r) (heads known.sig k) ≡ true))

-- one row has a cell there
abbrev pub CellThere : List ℕ → List ℕ → List ℕ → ℕ → Type 0
CellThere a rows cur r = (r < length cur) × (row_stride * r + row_stride ≤ length rows) × (cell_of rows r (get_or cur r 0) + cell_width ≤ length a)

-- whoever knows that learns what the column says
abbrev pub KindOfColumn : List ℕ → List ℕ → List ℕ → ℕ → List ℕ → List ℕ → Option ℕ → Type 0
KindOfColumn t a rows n re cur res = (g : Looking t a rows n re cur) → Column g.known.sig a rows n re cur g.k res

-- what is given to find the rows that allow head number j: the cursors are raised
pub record Keeping (a rows : List ℕ) (n : ℕ) (re cur : List ℕ) (j : ℕ) : Type 0 where
  pub few : n ≤ row_limit
  pub cursors : n ≤ length cur
  pub long : row_stride * n ≤ length rows
  pub bit_small : j < heads_width
  pub cell : (r : ℕ) → r < n → member re r ≡ true → (0 < get_or cur r 0) × (cell_of rows r (get_or cur r 0 - 1) + cell_width ≤ length a)

-- the same of one row
abbrev pub KeepingRow : List ℕ → List ℕ → List ℕ → ℕ → ℕ → Type 0
KeepingRow a rows cur j r = (r < row_limit) × (r < length cur) × (row_stride * r + row_stride ≤ length rows) × (j < heads_width) × (0 < get_or cur r 0) × (cell_of rows r (get_or cur r 0 - 1) + cell_width ≤ length a)

-- a kind that is there
pub record Heading (t : List ℕ) (k : ℕ) : Type 0 where
  pub known : Known t
  pub there : k < known.decoded.n

-- what is given to find the ends
abbrev pub Edging : List ℕ → List ℕ → ℕ → List ℕ → List ℕ → Type 0
Edging a rows n re cur = Keeping a rows n re cur 0

-- row r allows just one of the heads number v and v + 1, by its cell q
abbrev pub edge_by : List ℕ → List ℕ → (ℕ → Bool) → ℕ → ℕ → ℕ → Bool
edge_by a rows real q v r = real r && just_one (eqb (bit (allowed_of a (cell_of rows r q)) v) 1) (eqb (bit (allowed_of a (cell_of rows r q)) (v + 1)) 1)

-- by the cursors, which are raised by then
abbrev pub edge_of : List ℕ → List ℕ → (ℕ → Bool) → List ℕ → ℕ → ℕ → Bool
edge_of a rows real cur v r = edge_by a rows real (get_or cur r 0 - 1) v r

-- level v is an end
abbrev pub end_of : List ℕ → List ℕ → ℕ → (ℕ → Bool) → List ℕ → ℕ → Bool
end_of a rows n real cur v = eqb v last_level || any (edge_of a rows real cur v) (count_up 0 n)

-- head number j of kind k has a child
abbrev pub has_child : List ℕ → List ℕ → List ℕ → ℕ → (ℕ → Bool) → List ℕ → ℕ → ℕ → Bool
has_child t a rows n real cur k j = cond (eqb (first_of t k) level_base) (end_of a rows n real cur j) true
