-- A row beside the row of a branch: at which cells a value of the branch may leave it.
use Rattle.std.specs.Prelude.{◌≡◌, List, ◌++◌, true, false, ℕ}
use Rattle.signature.specs.Decoded.{Known}
use Rattle.signature.specs.Lawful.{OfKind}
use Rattle.signature.specs.Value.{Value}
use Rattle.row.specs.Row.{Row}
use Rattle.row.specs.RowFits.{Good, row_fits}
use Rattle.cell.specs.Coded.{kinds_of, row_code}
use Rattle.witness.specs.Pair.{Proper}
use Rattle.views.specs.View.{kept_of, agrees, Closed, view}

-- row and q begin with rows of kind 0, the first of at most 64 cells
pub record GivenBeside (t row q : List ℕ) : Type 0 where
  pub known : Known t
  pub r : Row
  pub s : Row
  pub rest_r : List ℕ
  pub rest_s : List ℕ
  pub proper : Proper known.sig 0 r
  pub good : Good known.sig 0 s
  pub code_r : row ≡ row_code (kinds_of known.sig) r 0 ++ rest_r
  pub code_s : q ≡ row_code (kinds_of known.sig) s 0 ++ rest_s

-- no value that the second takes leaves the first at cell c
abbrev pub NotLeft : {t row q : List ℕ} → GivenBeside t row q → ℕ → ℕ → Type 0
NotLeft g opened c = (v : Value) → row_fits g.s v ≡ true → row_fits (view g.known.sig (kept_of opened) c 0 0 g.r) v ≡ false

-- every value that the second takes agrees with the first but for the open cells, below which none is kept
abbrev pub AgreeBeside : {t row q : List ℕ} → GivenBeside t row q → ℕ → Type 0
AgreeBeside g opened = Closed (kept_of opened) 0 g.r × ((v : Value) → OfKind g.known.sig 0 v → row_fits g.s v ≡ true → agrees (kept_of opened) 0 g.r v ≡ true)
