-- Rows that meet a view of a row.
use mathlib.Core.Path.{◌≡◌, sym, ◌∙◌}
use mathlib.Core.Bool.{Bool, false, not}
use mathlib.Core.List.{List, ◌++◌}
use Prim.Native.Nat.{ℕ, ◌≤◌, ◌<◌}
use lib.Dec.{eqb}
use lib.ListN.{length}
use Rattle.signature.proofs.Booleans.{not_false}
use Rattle.signature.proofs.Tests.{eqb_eq}
use Rattle.row.specs.RowFits.{Good}
use Rattle.cell.specs.Coded.{kinds_of, row_code}
use Rattle.cell.specs.RowList.{from}
use Rattle.path.specs.State.{start_of}
use Rattle.views.specs.View.{kept_of, view}
use Rattle.views.specs.Write.{GivenView}
use Rattle.search.specs.Search.{GivenTable}
use Rattle.search.specs.Branch.{row_at}
use Rattle.search.specs.Choice.{GivenMeeting}
use Rattle.search.proofs.ChoiceFacts.{to_row}

-- a test of a set that holds
pub there : (b : Bool) (n : ℕ) → not b ≡ false → b ≡ eqb n 1 → n ≡ 1
there b n h e = eqb_eq n 1 (sym e ∙ not_false b h)

module _ {t a rows : List ℕ} {n : ℕ} (g : GivenTable t a rows n) (r : ℕ) (l : r < n) where
  abbrev pub to_view : (start : ℕ) (d : List ℕ) → start ≡ start_of rows r → 192 ≤ length d → GivenView t (from a start) d
  to_view start d e k = record { given = to_row g r l start e; room = k }

  abbrev pub to_meeting : (opened c : ℕ) (d rest : List ℕ) → d ≡ row_code (kinds_of g.known.sig) (view g.known.sig (kept_of opened) c 0 0 (row_at g.rs r)) 0 ++ rest → Good g.known.sig 0 (view g.known.sig (kept_of opened) c 0 0 (row_at g.rs r)) → GivenMeeting t a rows n d
  to_meeting opened c d rest e h = record { table = g; row = view g.known.sig (kept_of opened) c 0 0 (row_at g.rs r); rest = rest; good = h; code_is = e }
