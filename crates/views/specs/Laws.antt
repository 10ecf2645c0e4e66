-- The laws of views. The function `laws` promises them.
use Rattle.std.specs.Prelude.{◌⊎◌, ◌≡◌, Bool, true, false, ℕ, ◌≤◌, ◌<◌, max}
use Rattle.std.proofs.Math.Option.{some}
use Rattle.signature.specs.Lawful.{OfKind}
use Rattle.signature.specs.Signature.{Signature}
use Rattle.signature.specs.Value.{Value}
use Rattle.row.specs.Row.{Row, combine}
use Rattle.row.specs.RowFits.{Good, row_fits, place_count}
use Rattle.views.specs.View.{with_cell, height, agrees, edge, Closed, view}

pub record Laws : Type 0 where
  -- every value agrees where no cell is kept
  pub none_kept : (kept : ℕ → Bool) (r : Row) (v : Value) → kept 0 ≡ false → agrees kept 0 r v ≡ true
  -- a value that agrees at the kept cells either leaves the row at cell c or agrees there too
  pub cover : (sig : Signature) (kept : ℕ → Bool) (c k : ℕ) (r : Row) (v : Value) → Good sig k r → Closed kept 0 r → OfKind sig k v → agrees kept 0 r v ≡ true → (row_fits (view sig kept c k 0 r) v ≡ true) ⊎ (agrees (with_cell kept c) 0 r v ≡ true)
  -- below a cell that is not kept none is: so where no cell is kept, and with the first one more on a way from the top
  pub closed_none : (kept : ℕ → Bool) (r : Row) → ((i : ℕ) → i < place_count r → kept i ≡ false) → Closed kept 0 r
  pub closed_more : (kept : ℕ → Bool) (c : ℕ) (r : Row) → Closed kept 0 r → edge kept c 0 r ≡ true → Closed (with_cell kept c) 0 r
  pub closed_same : (f g : ℕ → Bool) (r : Row) → ((i : ℕ) → f i ≡ g i) → Closed f 0 r → Closed g 0 r
  -- what leaves the row at a cell to which only kept cells lead is not taken by the row
  pub apart : (sig : Signature) (kept : ℕ → Bool) (c k : ℕ) (r : Row) (v : Value) → edge kept c 0 r ≡ true → row_fits (view sig kept c k 0 r) v ≡ true → row_fits r v ≡ false
  -- where every cell is kept, a value that agrees is taken
  pub whole : (kept : ℕ → Bool) (r : Row) (v : Value) → ((c : ℕ) → edge kept c 0 r ≡ false) → agrees kept 0 r v ≡ true → row_fits r v ≡ true
  -- agreement asks only which cells are kept
  pub same_kept : (f g : ℕ → Bool) (r : Row) (v : Value) → ((i : ℕ) → f i ≡ g i) → agrees f 0 r v ≡ agrees g 0 r v
  -- a view has no more cells than its row, and is no higher; nor are two rows as one
  pub few : (sig : Signature) (kept : ℕ → Bool) (c k : ℕ) (r : Row) → place_count (view sig kept c k 0 r) ≤ place_count r
  pub low : (sig : Signature) (kept : ℕ → Bool) (c k : ℕ) (r : Row) → height (view sig kept c k 0 r) ≤ height r
  pub low_places : (r : Row) → height r ≤ place_count r
  pub low_combined : (r s q : Row) → combine r s ≡ some q → height q ≤ max (height r) (height s)
