-- Lists of rows behind each other, each behind the number of its words.
use Rattle.std.specs.Prelude.{◌≡◌, List, [], ◌∷◌, ◌++◌, Bool, true, not, ◌&&◌, ℕ, ◌≤◌, length}
use Rattle.signature.specs.Lists.{all, is_empty, somes}
use Rattle.cell.specs.Cell.{Kinds}
use Rattle.cell.specs.RowList.{Every, each_with, list_code}
use Rattle.row.specs.Row.{Row, combine, each}
use Rattle.rowset.specs.Limits.{row_limit}
use Rattle.meeting.specs.Rows.{Proper, Gathered}

-- all their rows
abbrev pub rows_in : List (List Row) → List Row
rows_in [] = []
rows_in (rs ∷ rss) = rs ++ rows_in rss

-- some row of the one list combines with some row of the other
abbrev pub lists_meet : List Row → List Row → Bool
lists_meet rs ss = not (is_empty (somes (each combine rs ss)))

-- no two of them stand in a relation
abbrev pub none_by : {A : Type 0} → (A → A → Bool) → List A → Bool
none_by f [] = true
none_by f (x ∷ xs) = all (λ y. not (f x y)) xs && none_by f xs

-- n lists stand first, of 256 rows at most
pub record GivenLists (t a : List ℕ) (n : ℕ) : Type 0 where
  pub K : Kinds
  pub kind : ℕ
  pub rss : List (List Row)
  pub rest : List ℕ
  pub code_is : a ≡ each_with (list_code K kind) rss ++ rest
  pub many : n ≡ length rss
  pub proper : Every (Every (Proper K t kind)) rss
  pub few : length (rows_in rss) ≤ row_limit

-- so many rows are gathered
pub record ListsGathered {t a : List ℕ} {n : ℕ} (g : GivenLists t a n) (r : ℕ) (cur : List ℕ) : Type 0 where
  pub count : r ≡ length (rows_in g.rss)
  pub rows : Gathered g.K t a g.kind (rows_in g.rss) cur
