-- The law of the matrix. The function `laws` promises it.
use Rattle.std.specs.Prelude.{◌↔◌, ◌≡◌, List, true, false, ℕ, ◌≤◌}
use Rattle.std.proofs.Math.Option.{some}
use Rattle.std.proofs.Math.ListN.{get_elem?}
use Rattle.signature.specs.Lawful.{LawfulBooking}
use Rattle.signature.specs.Read.{Signed}
use Rattle.signature.specs.Signature.{Signature}
use Rattle.signature.specs.Value.{Value}
use Rattle.pattern.specs.Limits.{pattern_limit}
use Rattle.row.specs.Row.{Row}
use Rattle.row.specs.RowFits.{Good, place_count, row_fits}
use Rattle.meeting.specs.Matrix.{meets}
use Rattle.meeting.specs.Rows.{Matrix}

pub record Laws : Type 0 where
  -- a bit is off exactly where no lawful booking fits both rows
  pub off : (sig : Signature) → Signed sig → (rs : List Row) (m : List ℕ) → Matrix rs m → (i j : ℕ) (r s : Row) → get_elem? rs i ≡ some r → get_elem? rs j ≡ some s → Good sig 0 r → Good sig 0 s → place_count r ≤ pattern_limit → place_count s ≤ pattern_limit
      → ((meets m i j ≡ false) ↔ ((ws : List ℕ) (v : Value) → LawfulBooking sig ws v → row_fits r v ≡ true → row_fits s v ≡ true → ⊥))
