-- A row and a value of its kind, each in words; which heads a cell allows.
use Rattle.std.specs.Prelude.{◌≡◌, List, ◌++◌, Bool, true, cond, ℕ, ◌+◌, ◌-◌, ◌≤◌, ◌<◌, eqb, ltb}
use Rattle.signature.specs.Decoded.{Known, first_of}
use Rattle.signature.specs.Lawful.{OfKind}
use Rattle.signature.specs.Limits.{kind_limit}
use Rattle.signature.specs.Value.{Value, code}
use Rattle.row.specs.Row.{Row}
use Rattle.row.specs.RowFits.{Good}
use Rattle.cell.specs.Cell.{kind_tag, free_tag}
use Rattle.cell.specs.declared.cell.Cell.{Cell}
use Rattle.cell.specs.Coded.{kinds_of, row_code}
use Rattle.sets.specs.Heads.{number_of}
use Rattle.sets.specs.Set.{bit, heads_width}

-- row begins with a row, and b is a value of the row's kind
pub record GivenTakes (t row b : List ℕ) : Type 0 where
  pub known : Known t
  pub kind : ℕ
  pub r : Row
  pub rest : List ℕ
  pub good : Good known.sig kind r
  pub code_is : row ≡ row_code (kinds_of known.sig) r kind ++ rest
  pub value : Value
  pub kinded : OfKind known.sig kind value
  pub words : b ≡ code value

-- where the tag is that of an open cell, the head c is none below the first of its kind, and not far above
abbrev pub Near : List ℕ → ℕ → ℕ → Type 0
Near t tag c = kind_tag ≤ tag → tag < free_tag → (tag - kind_tag < kind_limit) × (first_of t (tag - kind_tag) ≤ c) × (c < first_of t (tag - kind_tag) + heads_width)

-- the head c may stand where a row has the cell p: the head that it names, one of the set, or any where no cell stands
abbrev pub allows_of : List ℕ → Cell → ℕ → Bool
allows_of t p c = cond (ltb p.tag kind_tag) (eqb p.tag c) (cond (ltb p.tag free_tag) (eqb (bit (number_of p.allowed) (c - first_of t (p.tag - kind_tag))) 1) true)
