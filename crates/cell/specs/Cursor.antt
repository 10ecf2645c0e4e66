-- A cursor over the columns of a row: so many wildcards that no cell stands for, then the cells from a word on.
use Rattle.std.specs.Prelude.{List, cond, ℕ, ◌+◌, ◌≤◌, ◌*◌, ◌-◌, ◌/◌, ◌%◌, min, ltb, get_or, length, set}
use Rattle.cell.specs.Cell.{cell_width, kind_tag, free_tag, tag_limit, first_word}
use Rattle.cell.specs.declared.cell.Cell.{Cell}
use Rattle.cell.specs.declared.cell.Cursor.{Cursor}
use Rattle.sets.specs.Heads.{number_of, two_words, low_word, high_word}
use Rattle.sets.specs.Set.{all_set, union, intersection}
use Rattle.signature.specs.Decoded.{arity_of, kind_of}

-- tag, variables and the number of a set of heads
abbrev pub cell_of : ℕ → ℕ → ℕ → Cell
cell_of t v m = record { tag = t; vars = v; allowed = two_words m }

abbrev pub wild_cell : Cell
wild_cell = cell_of free_tag 0 all_set

abbrev pub cell_at : List ℕ → ℕ → Cell
cell_at row at = record { tag = get_or row at 0 % tag_limit; vars = get_or row at 0 / tag_limit; allowed = record { low = get_or row (at + 1) 0; high = get_or row (at + 2) 0 } }

-- a cursor that has no wildcard in front has a cell
abbrev pub Room : List ℕ → Cursor → Type 0
Room row c = c.at + cell_width ≤ length row + cell_width * c.wildcards

-- the first column's cell
abbrev pub look_at : List ℕ → Cursor → Cell
look_at row c = cond (ltb 0 c.wildcards) wild_cell (cell_at row c.at)

-- past the first column, with so many wildcards in its place
abbrev pub past_column : Cursor → ℕ → Cursor
past_column c more = cond (ltb 0 c.wildcards) (record { at = c.at; wildcards = c.wildcards - 1 + more }) (record { at = c.at + cell_width; wildcards = more })

-- a constructor with n arguments is taken in the first column, whose tag is given
abbrev pub next_of : Cursor → ℕ → ℕ → Cursor
next_of c tag n = past_column c (cond (ltb tag kind_tag) 0 n)

-- two cells of one column as one
abbrev pub join_of : Cell → Cell → Cell
join_of a b = cell_of (min a.tag b.tag) (union a.vars b.vars) (intersection (number_of a.allowed) (number_of b.allowed))

-- how many columns a cell opens, by the table of a signature
abbrev pub opens_of : List ℕ → ℕ → ℕ
opens_of t tag = cond (ltb tag kind_tag) (arity_of t tag) 0

-- the kind of the place of a cell, by its tag and the table of a signature
abbrev pub cell_kind : List ℕ → ℕ → ℕ
cell_kind t tag = cond (ltb tag kind_tag) (kind_of t tag) (tag - kind_tag)

abbrev pub put_cell : List ℕ → ℕ → Cell → List ℕ
put_cell o at c = set (set (set o at (first_word c.tag c.vars)) (at + 1) (low_word (number_of c.allowed))) (at + 2) (high_word (number_of c.allowed))
