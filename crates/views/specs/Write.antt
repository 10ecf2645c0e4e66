-- A view in words, and the first cells that are not kept.
use Rattle.std.specs.Prelude.{◌≡◌, List, ◌++◌, Bool, false, cond, ◌&&◌, ℕ, ◌+◌, ◌*◌, ◌≤◌, ◌<◌, eqb, ltb, length, drop, Option as CodeOption, None, Some}
use Rattle.signature.specs.Decoded.{Known, decoded_length, count_of}
use Rattle.signature.specs.Limits.{kind_limit}
use Rattle.signature.specs.Value.{Value}
use Rattle.pattern.specs.Limits.{pattern_limit}
use Rattle.row.specs.Row.{Row}
use Rattle.row.specs.RowFits.{Good, row_fits, place_count}
use Rattle.sets.specs.Heads.{number_of}
use Rattle.sets.specs.Set.{bit, heads_width}
use Rattle.cell.specs.Cell.{cell_width, kind_tag}
use Rattle.cell.specs.declared.cell.Cell.{Cell}
use Rattle.cell.specs.Coded.{kinds_of, row_code}
use Rattle.cell.specs.Cursor.{cell_kind}
use Rattle.views.specs.View.{kept_of, edge, view}

-- row begins with a row of some kind
pub record GivenPart (t row : List ℕ) : Type 0 where
  pub known : Known t
  pub kind : ℕ
  pub r : Row
  pub rest : List ℕ
  pub good : Good known.sig kind r
  pub code_is : row ≡ row_code (kinds_of known.sig) r kind ++ rest

-- of at most 64 cells
pub record GivenRow (t row : List ℕ) : Type 0 where
  pub part : GivenPart t row
  pub few : place_count part.r ≤ pattern_limit

-- and there is room for as many
pub record GivenView (t row o : List ℕ) : Type 0 where
  pub given : GivenRow t row
  pub room : cell_width * pattern_limit ≤ length o

-- a cell whose kind the table has
pub record GivenCell (t : List ℕ) (tag : ℕ) : Type 0 where
  pub long : length t ≡ decoded_length
  pub kinded : cell_kind t tag < kind_limit
  pub few : count_of t (cell_kind t tag) ≤ heads_width

-- what stands for the part below it: anything of its kind, and where the row is left what the row does not allow
pub record Outside (t : List ℕ) (c : Cell) (left : Bool) (r : Cell) : Type 0 where
  pub tag_is : r.tag ≡ kind_tag + cell_kind t c.tag
  pub vars_are : r.vars ≡ 0
  pub allowed_are : (j : ℕ) → bit (number_of r.allowed) j ≡ cond (left && eqb (bit (number_of c.allowed) j) 1) 0 (cond (ltb j (count_of t (cell_kind t c.tag))) 1 0)

-- the row left at a cell, where the cells of the set `opened` are not kept
abbrev pub view_of : {t row : List ℕ} → GivenRow t row → ℕ → ℕ → Row
view_of g opened left = view g.part.known.sig (kept_of opened) left g.part.kind 0 g.part.r

-- its words first in o; or nothing, where no value leaves the row there
pub record Viewed {t row o : List ℕ} (g : GivenView t row o) (opened left : ℕ) (res : CodeOption ℕ) (o' : List ℕ) : Type 0 where
  pub kept : (n : ℕ) → res ≡ Some n → (o' ≡ row_code (kinds_of g.given.part.known.sig) (view_of g.given opened left) g.given.part.kind ++ drop n o) × (n ≡ length (row_code (kinds_of g.given.part.known.sig) (view_of g.given opened left) g.given.part.kind)) × Good g.given.part.known.sig g.given.part.kind (view_of g.given opened left)
  pub dropped : res ≡ None → (v : Value) → row_fits (view_of g.given opened left) v ≡ false

-- the set of the first cells that are not kept
abbrev pub Frontier : {t row : List ℕ} → GivenRow t row → ℕ → ℕ → Type 0
Frontier g opened m = (c : ℕ) → bit m c ≡ cond (edge (kept_of opened) c 0 g.part.r) 1 0
