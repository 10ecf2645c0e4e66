-- Rows of a list, each where its words begin, and the matrix of those that combine.
use Rattle.std.specs.Prelude.{◌≡◌, List, ◌++◌, Bool, true, false, ℕ, ◌+◌, ◌*◌, ◌≤◌, ◌<◌, length, get_or, drop}
use Rattle.std.proofs.Math.Option.{some}
use Rattle.std.proofs.Math.ListN.{get_elem?}
use Rattle.signature.specs.Lists.{is_some}
use Rattle.pattern.specs.Limits.{pattern_limit}
use Rattle.cell.specs.Cell.{Kinds}
use Rattle.cell.specs.RowList.{Every, list_code}
use Rattle.cell.specs.Coded.{Typed}
use Rattle.row.specs.Row.{Row, combine}
use Rattle.row.specs.RowFits.{place_count}
use Rattle.rowset.specs.Limits.{row_limit}
use Rattle.rowset.specs.Member.{set_words}
use Rattle.meeting.specs.Matrix.{meets}
use Rattle.meeting.specs.Part.{RowAt}

-- a row of a pattern: of its kind, of at most 64 places
pub record Proper (K : Kinds) (t : List ℕ) (kind : ℕ) (r : Row) : Type 0 where
  pub typed : Typed K t r kind
  pub few : place_count r ≤ pattern_limit

-- row i of a list begins at cursor i
pub record Gathered (K : Kinds) (t a : List ℕ) (kind : ℕ) (rs : List Row) (cur : List ℕ) : Type 0 where
  pub there : (i : ℕ) (r : Row) → get_elem? rs i ≡ some r → RowAt K t a kind (get_or cur i 0) r
  pub few : (i : ℕ) (r : Row) → get_elem? rs i ≡ some r → place_count r ≤ pattern_limit

-- rows that are gathered, and a list of rows that begins at a word
pub record GivenGather (a : List ℕ) (at n : ℕ) (cur : List ℕ) : Type 0 where
  pub K : Kinds
  pub t : List ℕ
  pub kind : ℕ
  pub rs : List Row
  pub before : Gathered K t a kind rs cur
  pub many : n ≡ length rs
  pub ss : List Row
  pub rest : List ℕ
  pub code_is : drop at a ≡ list_code K kind ss ++ rest
  pub proper : Every (Proper K t kind) ss
  pub room : n + length ss ≤ row_limit

-- those of the list behind the others, so many in all
pub record Gathers {a : List ℕ} {at n : ℕ} {cur : List ℕ} (g : GivenGather a at n cur) (r : ℕ) (cur' : List ℕ) : Type 0 where
  pub count : r ≡ n + length g.ss
  pub rows : Gathered g.K g.t a g.kind (g.rs ++ g.ss) cur'

-- n rows of one kind are gathered, and there is room for their matrix
pub record GivenMeet (t a : List ℕ) (n : ℕ) (cur : List ℕ) (room : ℕ) : Type 0 where
  pub K : Kinds
  pub kind : ℕ
  pub rs : List Row
  pub rows : Gathered K t a kind rs cur
  pub many : n ≡ length rs
  pub few : n ≤ row_limit
  pub roomy : set_words * n ≤ room

-- bit (i, j) says whether rows i and j combine; and row i has no bit behind the last row
pub record Matrix (rs : List Row) (m : List ℕ) : Type 0 where
  pub pairs : (i j : ℕ) (r s : Row) → get_elem? rs i ≡ some r → get_elem? rs j ≡ some s → meets m i j ≡ is_some (combine r s)
  pub beyond : (i j : ℕ) → i < length rs → length rs ≤ j → j < row_limit → meets m i j ≡ false

-- the first row that row i meets, or that it meets none
pub record FirstMet (m : List ℕ) (i r : ℕ) : Type 0 where
  pub most : r ≤ row_limit
  pub before : (j : ℕ) → j < r → meets m i j ≡ false
  pub there : r < row_limit → meets m i r ≡ true

-- whether some row from `low` on, below `high`, meets a row below `low`
pub record SomeMet (m : List ℕ) (low high : ℕ) (b : Bool) : Type 0 where
  pub yes : b ≡ true → (i : ℕ) × (j : ℕ) × (low ≤ i) × (i < high) × (j < low) × (meets m i j ≡ true)
  pub no : b ≡ false → (i j : ℕ) → low ≤ i → i < high → j < low → meets m i j ≡ false
